-- Tables that were put into all their readers.
use Rattle.std.proofs.Common.{◌≡◌, Bool, ℕ, ◌<◌, ◌≤◌, List, [], true, length, set, refl, sym, ap, subst, ◌∙◌, arith}
use Rattle.map_network.proofs.Vocabulary.{Source, NetTable, Network, begins}
use Rattle.map_network.specs.Vocabulary.{IsNetwork, in_tables, MayPut, IsPut, IsJoined, DoesSame, is_dropped, IsClosed, IsCompacted, IsPruned, Spreads, puts}
use Rattle.map_network.proofs.PutLemmas.{net, IsAfter, after_none, after_put, same_length}
use Rattle.map_network.proofs.CompactLemmas.{compacted_reduced, reduced_same, same_then}

-- a table is put into a reader
pub one_spread : (ts us : List NetTable) (j r : ℕ) (t : NetTable) → us ≡ ts → MayPut us j r × IsJoined j (in_tables us j) (in_tables us r) t → Spreads ts (set ts r t)
one_spread ts us j r t e h = subst (λ vs. Spreads vs (set vs r t)) e (puts begins (record { may = h.0; table = t; joined = h.1; set = refl }))

-- one step after another
pub spreads_on : {a b c : List NetTable} → Spreads a b → Spreads b c → Spreads a c
spreads_on p begins = p
spreads_on p (puts q s) = puts (spreads_on p q) s

pub spreads_length : {a b : List NetTable} → Spreads a b → length b ≡ length a
spreads_length begins = refl
spreads_length (puts {mid = b} {new = c} {j = j} {r = r} ps p) = same_length 0 b [] j r c p ∙ spreads_length ps

module _ (inputs : ℕ) (outputs : List Source) where
  after_spreads : {old new : List NetTable} → Spreads old new → IsNetwork (net inputs old outputs) → IsAfter inputs outputs old new
  after_spreads {old} begins is = after_none inputs outputs old is
  after_spreads {old} (puts {mid = b} {new = c} {j = j} {r = r} ps p) is = after_put inputs outputs old b c j r (after_spreads ps is) p

-- tables were put into readers
pub spread_put : (n m : Network) (ts : List NetTable) → IsNetwork n → Spreads n.tables ts → m ≡ net n.inputs ts n.outputs → DoesSame n m
spread_put n m ts is ps e = subst (DoesSame n) (sym e) (record {
  network = all.network;
  rows = all.rows;
  fewer = (let l = all.len in omega arith);
  shallow = all.shallow;
  inputs = refl;
  outputs = refl;
})
  where
    all : IsAfter n.inputs n.outputs n.tables ts
    all = after_spreads n.inputs n.outputs ps is

pub spread_changed : (n : Network) (ts us : List NetTable) (qs : List Source) → IsNetwork n → Spreads n.tables ts → us ≡ ts → qs ≡ n.outputs → DoesSame n (net n.inputs us qs)
spread_changed n ts us qs is ps e f = spread_put n (net n.inputs us qs) ts is ps (ap (λ xs. net n.inputs xs qs) e ∙ ap (λ xs. net n.inputs ts xs) f)

-- what is marked is dropped
pub spread_less : (n m : Network) (marks : List Bool) → IsNetwork n → IsClosed marks n.tables n.outputs → IsCompacted n marks m → (j : ℕ) → j < length n.tables → is_dropped marks j ≡ true → DoesSame n m
spread_less n m marks is closed comp j lj at = reduced_same n m (compacted_reduced n m marks is closed comp j lj at)

-- a round: tables that lead to no output go, and others are put into all their readers
pub rounds_on : (n a b c : Network) → DoesSame n a → IsPruned a b → DoesSame b c → DoesSame n c
rounds_on n a b c start p spread = same_then n b c (same_then n a b start p.same) spread
