-- A network with tables put into their readers and left out.
use Rattle.std.proofs.Common.{◌≡◌, Bool, ℕ, ◌<◌, List, Result, Ok, Err, IfOk, false, true, length, set, replicate, refl, sym, ap, subst, ◌∙◌, arith}
use Rattle.map_network.proofs.Vocabulary.{length-map, length-replicate, NetlistData, PortDef, NetTable, Network}
use Rattle.map_network.specs.{declared.merge.Found.Found, Merges.begins}
use Rattle.map_network.specs.Vocabulary.{IsNetwork, HasRowsOf, plain_network, source_of, CanJoin, MayPut, IsPutOn, Puts, none, more, IsReduced, is_dropped, IsClosed, IsCompacted, none_gone, drops, IsFound, IsPruned, IsSmaller, IsMergedOf}
use Rattle.map_network.proofs.PutLemmas.{net, IsAfter, after_puts, puts_on, same_tables, unread_now}
use Rattle.map_network.proofs.CompactLemmas.{compacted_leads, compacted_reduced, one_dropped, reduced_same, same_then}
use Rattle.map_network.proofs.LeadLemmas.{puts_lead}
use Rattle.map_network.proofs.MergeLemmas.{clean_of, merged_by, none_is_gone}
use Rattle.map_network.proofs.ReaderLemmas.{may_put}

-- what the search found
module _ (n : Network) (is : IsNetwork n) (ts : List NetTable) (gone : List Bool) (ps : Puts n.tables (none_gone n) ts gone) where
  after : IsAfter n.inputs n.outputs n.tables ts
  after = after_puts n.inputs n.outputs ps is

  pub puts_network : (m : Network) → m ≡ net n.inputs ts n.outputs → IsNetwork m
  puts_network m e = subst IsNetwork (sym e) after.network

  pub puts_within : (m : Network) (j : ℕ) → m ≡ net n.inputs ts n.outputs → j < length n.tables → j < length m.tables
  puts_within m j e lj = let f = ap (λ (x : Network). length x.tables) e in let g = same_tables ps in omega arith

  pub puts_found : (found : Found) (j : ℕ) → found.network ≡ net n.inputs ts n.outputs → found.gone.items ≡ gone → IsClosed found.gone.items found.network.tables found.network.outputs → is_dropped found.gone.items j ≡ true → IsFound n j found
  puts_found found j e marks closed g = record {
    tables = ts;
    is = e;
    puts = subst (Puts n.tables (none_gone n) ts) (sym marks) ps;
    closed = subst (λ (m : Network). IsClosed found.gone.items m.tables m.outputs) e closed;
    gone = g;
  }

-- work that begins with the tables of a network
module _ (n : Network) (ts : List NetTable) (g : List Bool) (at : ts ≡ n.tables) (none_yet : g ≡ none_gone n) where
  pub puts_from : (us vs : List NetTable) (h k : List Bool) → Puts ts g us h → Puts us h vs k → Puts n.tables (none_gone n) vs k
  puts_from us vs h k p q = subst (λ a. Puts a (none_gone n) vs k) at (subst (λ b. Puts ts b vs k) none_yet (puts_on p q))

  pub put_from : (j r : ℕ) (us : List NetTable) (h : List Bool) → (MayPut ts j r → is_dropped g j ≡ false → is_dropped g r ≡ false → IsPutOn ts g j r us h) → MayPut n.tables j r → is_dropped (none_gone n) j ≡ false → is_dropped (none_gone n) r ≡ false → IsPutOn n.tables (none_gone n) j r us h
  put_from j r us h put = subst (λ a. MayPut a j r → is_dropped (none_gone n) j ≡ false → is_dropped (none_gone n) r ≡ false → IsPutOn a (none_gone n) j r us h) at
      (subst (λ b. MayPut ts j r → is_dropped b j ≡ false → is_dropped b r ≡ false → IsPutOn ts b j r us h) none_yet put)

-- what was found is a network, with a mark for each table
pub found_network : (n : Network) (j : ℕ) (found : Found) → IsNetwork n → IsFound n j found → IsNetwork found.network
found_network n j found is f = puts_network n is f.tables found.gone.items f.puts found.network f.is

pub found_marks : (n : Network) (j : ℕ) (found : Found) → IsFound n j found → length found.gone.items ≡ length found.network.tables
found_marks n j found f = f.closed.len ∙ sym (ap (λ (m : Network). length m.tables) f.is)

-- the one table alone
pub one_found : (n : Network) (is : IsNetwork n) (j r : ℕ) → CanJoin n j r → (ts : List NetTable) (gone : List Bool) → (MayPut n.tables j r → is_dropped (none_gone n) j ≡ false → is_dropped (none_gone n) r ≡ false → IsPutOn n.tables (none_gone n) j r ts gone) → (found : Found) → found.network ≡ net n.inputs ts n.outputs → found.gone.items ≡ gone → IsFound n j found
one_found n is j r can ts gone put found e marks =
    let lj : j < length n.tables = can.combinational.within in
    let p : IsPutOn n.tables (none_gone n) j r ts gone = put (may_put n j lj is r can) (none_is_gone (length n.tables) j) (none_is_gone (length n.tables) r) in
    let many : length ts ≡ length n.tables = same_tables (more none p) in
    let blank : none_gone n ≡ replicate (length ts) false = ap (λ k. replicate k false) (sym many) in
    let one = one_dropped (net n.inputs ts n.outputs) j (none_gone n) blank (omega (arith, many, lj)) (unread_now n.inputs n.tables n.outputs j r ts p.put can) in
    let same : found.gone.items ≡ set (none_gone n) j true = marks ∙ p.marked in
    record {
      tables = ts;
      is = e;
      puts = subst (Puts n.tables (none_gone n) ts) (sym marks) (more none p);
      closed = subst (λ g. IsClosed g ts n.outputs) (sym same) one.0;
      gone = subst (λ g. is_dropped g j ≡ true) (sym same) one.1;
    }

-- what is gone is dropped
module _ (n : Network) (is : IsNetwork n) (j : ℕ) (lj : j < length n.tables) (found : Found) (f : IsFound n j found) (m : Network) (comp : IsCompacted found.network found.gone.items m) where
  all : IsAfter n.inputs n.outputs n.tables f.tables
  all = after_puts n.inputs n.outputs f.puts is

  dropped : IsCompacted (net n.inputs f.tables n.outputs) found.gone.items m
  dropped = subst (λ (x : Network). IsCompacted x found.gone.items m) f.is comp

  less : IsReduced (net n.inputs f.tables n.outputs) m
  less = compacted_reduced (net n.inputs f.tables n.outputs) m found.gone.items all.network f.closed dropped j (let l = all.len in omega (arith, lj)) f.gone

  reduced : IsReduced n m
  reduced = record {
    network = less.network;
    rows = λ vs rs. (let g = all.rows vs rs in let h = less.rows vs rs in (λ q. h.0 (g.0 q), λ q. g.1 (h.1 q)));
    inputs = less.inputs;
    outputs = less.outputs;
    less = (let l = less.less in let k = all.len in omega arith);
    shallow = λ depth deep. less.shallow depth (all.shallow depth deep);
  }

  pub found_smaller : IsSmaller n m
  found_smaller = record {
    reduced = reduced;
    merged = λ start from. drops (merged_by start n.inputs n.outputs f.puts is (length-replicate (length n.tables) false) (clean_of n.inputs f.tables n.outputs found.gone.items f.closed) from) dropped;
    lead = λ each. compacted_leads (net n.inputs f.tables n.outputs) m found.gone.items all.network f.closed dropped (puts_lead n.inputs n.outputs f.puts (length-replicate (length n.tables) false) (λ x lx stands. each x lx));
  }

pub if_ok_map : {T E : Type 0} {P Q : T → Type 0} (r : Result T E) → ((x : T) → P x → Q x) → IfOk r P → IfOk r Q
if_ok_map (Ok x) f h = f x h
if_ok_map (Err e) f h = tt

-- the passes
pub merged_first : (n m : Network) → IsPruned n m → IsMergedOf n m
merged_first n m p = record { same = p.same; merged = p.merged n begins; lead = p.lead }

pub merged_on : (n m k : Network) → IsMergedOf n m → IsSmaller m k → IsMergedOf n k
merged_on n m k old next = record { same = same_then n m k old.same (reduced_same m k next.reduced); merged = next.merged n old.merged; lead = next.lead old.lead }

-- from the plain network on
module _ (d : NetlistData) where
  plain_inputs : (plain_network d).inputs ≡ length d.inputs
  unfolding plain_network
  plain_inputs = refl

  plain_outputs : length (plain_network d).outputs ≡ length d.outputs
  unfolding plain_network
  plain_outputs = length-map d.outputs (λ (p : PortDef). source_of d p.signal)

  pub merged_rows : (n m : Network) → HasRowsOf n d → IsMergedOf n m → HasRowsOf m d
  merged_rows n m has merged = λ vs rs. (let f = has vs rs in let g = merged.same.rows vs rs in (λ q. g.0 (f.0 q), λ q. f.1 (g.1 q)))

  pub inputs_of : (n m : Network) → n ≡ plain_network d → IsMergedOf n m → m.inputs ≡ length d.inputs
  inputs_of n m e merged = merged.same.inputs ∙ ap (λ (x : Network). x.inputs) e ∙ plain_inputs

  pub outputs_of : (n m : Network) → n ≡ plain_network d → IsMergedOf n m → length m.outputs ≡ length d.outputs
  outputs_of n m e merged = merged.same.outputs ∙ ap (λ (x : Network). length x.outputs) e ∙ plain_outputs
