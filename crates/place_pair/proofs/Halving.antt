-- A whole and its two tenants.
use Rattle.std.proofs.Common.{◌≡◌, ◌⊎◌, ℕ, ◌+◌, ◌-◌, ◌<◌, ◌≤◌, ◌++◌, Bool, true, Some, Option, List, [], ◌∷◌, length, get_or, map, refl, sym, ap, ◌∙◌, subst, inl, inr, arith, ◌↔◌, IsSome}
use Rattle.place_pair.proofs.Vocabulary.{All, cases_lt, length-map, Shape, table_wire, Pins, Faults, Defects, Covers, Setting, is_closed}
use Rattle.place_pair.proofs.Vocabulary.{setting_of, ImageValue, image_row, IsFreeImage, Network, IsNetwork, AreRows, HasOneRows, Layout}
use Rattle.place_pair.proofs.Vocabulary.{Plan, nets_in, place_of, Site, AreBothRows, joint_network, part, AreTenants, RunsAsAlone}
use Rattle.place_pair.proofs.Vocabulary.{StandApart, first_site, second_site, IsTenant, IsSplit, Owns, StandsIn}
use Rattle.place_route.specs.RightImages.{IsRightForNetwork, ReadsRows}
use Rattle.place_pair.proofs.Lists.{all_map, both_parts, length_part, map_part}
use Rattle.place_pair.proofs.Sounding.{long_tables, long_outputs}
use Rattle.place_pair.proofs.Standing.{first_stands, second_stands}
use Rattle.place_pair.proofs.Behaving.{rows_of}
use Rattle.place_pair.proofs.Letting.{Ground, Has, IsIts, Joint, joint_of, net_within, one_has, one_place, place_within, here_net, own_pins, tenant_free, tenant_reads, table_pin, uses_its, same_setting, table_its}

abbrev pub HaveOneRows : Type 0
HaveOneRows = (n : Network) (vectors : List (List Bool)) → IsNetwork n → All (λ v. length v ≡ n.inputs) vectors → HasOneRows n vectors

-- a tenant runs in the whole as it does alone
module _ (m : Shape) (d : Defects) (joint : Network) (p : Plan) (l : Layout) (owners : List (Option ℕ)) (whole : ImageValue) (ground : Ground m d joint p l owners whole) (reading : (f : Faults) → Covers m d f → IsRightForNetwork f whole joint) (one : HaveOneRows)
    (s : Site) (n : Network) (stands : StandsIn s n joint) (net : IsNetwork n) (i : ImageValue) (tenant : IsTenant s n p owners whole i) where
  rows_part : (reads : List Pins) → map (image_row i) reads ≡ map (part s.output (length n.outputs)) (map (image_row whole) reads)
  rows_part [] = refl
  rows_part (r ∷ rs) =
      ap (λ row. row ∷ map (image_row i) rs) (ap (map (λ k. get_or r k true)) tenant.outputs ∙ sym (map_part (λ k. get_or r k true) s.output (length n.outputs) whole.outputs))
      ∙ ap (λ rows. part s.output (length n.outputs) (image_row whole r) ∷ rows) (rows_part rs)

  ins : length i.inputs ≡ n.inputs
  ins = (own_pins m d joint p l owners whole ground s n stands net i tenant).inputs

  pins : length whole.inputs ≡ joint.inputs
  pins = ap length ground.route.inputs ∙ ground.plan.inputs

  wide : (vectors : List (List Bool)) → All (λ v. length v ≡ length whole.inputs) vectors → All (λ v. length v ≡ n.inputs) (map (part s.input n.inputs) vectors)
  wide vectors all = all_map (part s.input n.inputs) (λ v. length v ≡ length whole.inputs) (λ v. length v ≡ n.inputs) (λ v h. length_part s.input n.inputs v (let e = stands.inputs in let q = pins in omega (arith, h, e, q))) vectors all

  pub runs_alone : (f : Faults) → Covers m d f → RunsAsAlone f whole i s.input
  runs_alone f covers vectors reads alone lens run own_run =
      let cut : (c : ℕ) → List (List Bool) = λ c. map (part s.input c) vectors in
      let same : cut n.inputs ≡ cut (length i.inputs) = ap cut (sym ins) in
      let mine = rows_of s n joint stands net vectors (map (image_row whole) reads) (reading f covers vectors reads lens run) in
      let wide_here = subst (All (λ v. length v ≡ length i.inputs)) same (subst (λ c. All (λ v. length v ≡ c) (map (part s.input n.inputs) vectors)) (sym ins) (wide vectors lens)) in
      let theirs = tenant_reads m d joint p l owners whole ground s n stands net i tenant f covers (map (part s.input (length i.inputs)) vectors) alone wide_here own_run in
      let rows = one n (map (part s.input n.inputs) vectors) net (wide vectors lens) in
      rows_part reads ∙ rows.2 (map (part s.output (length n.outputs)) (map (image_row whole) reads)) mine
      ∙ sym (rows.2 (map (image_row i) alone) (subst (λ vs. AreRows n vs (map (image_row i) alone)) (sym same) theirs))

module _ (n o : Network) (first : IsNetwork n) (second : IsNetwork o) where
  one_stands : StandsIn (first_site n o) n (joint_network n o)
  one_stands = first_stands n o first second (n.inputs + o.inputs) refl

  two_stands : StandsIn (second_site n o) o (joint_network n o)
  two_stands = second_stands n o first second (n.inputs + o.inputs + length n.tables) refl

  owned_once : (q : ℕ) → Owns (first_site n o) n q → Owns (second_site n o) o q → ⊥
  owned_once q (inl a) (inl b) = omega (arith, a.1, b.0)
  owned_once q (inl a) (inr b) = omega (arith, a.1, b.0)
  owned_once q (inr a) (inl b) = omega (arith, a.0, b.1)
  owned_once q (inr a) (inr b) = omega (arith, a.1, b.0)

  owned : (q : ℕ) → q < nets_in (joint_network n o) → Owns (first_site n o) n q ⊎ Owns (second_site n o) o q
  owned q h = by (cases_lt q n.inputs) (cases_lt q (n.inputs + o.inputs)) (cases_lt q (n.inputs + o.inputs + length n.tables))
    where
      by : (q < n.inputs) ⊎ (n.inputs ≤ q) → (q < n.inputs + o.inputs) ⊎ (n.inputs + o.inputs ≤ q) → (q < n.inputs + o.inputs + length n.tables) ⊎ (n.inputs + o.inputs + length n.tables ≤ q) → Owns (first_site n o) n q ⊎ Owns (second_site n o) o q
      by (inl a) y z = inl (inl (omega arith, omega (arith, a)))
      by (inr a) (inl b) z = inr (inl (a, b))
      by (inr a) (inr b) (inl c) = inl (inr (b, c))
      by (inr a) (inr b) (inr c) = inr (inr (c, let e = long_tables n o in omega (arith, h, e)))

  module _ (m : Shape) (d : Defects) (p : Plan) (l : Layout) (owners : List (Option ℕ)) (whole : ImageValue) (ground : Ground m d (joint_network n o) p l owners whole)
      (i : ImageValue) (its : IsTenant (first_site n o) n p owners whole i) (k : ImageValue) (theirs : IsTenant (second_site n o) o p owners whole k) where
    abbrev HasIt : ℕ → ℕ → Type 0
    HasIt = Has m d (joint_network n o) p l owners whole ground

    one_net_has : (a b w : ℕ) → HasIt a w → HasIt b w → a ≡ b
    one_net_has = one_has m d (joint_network n o) p l owners whole ground

    abbrev First : ℕ → Type 0
    First w = IsIts m d (joint_network n o) p l owners whole ground (first_site n o) n one_stands first i its w

    abbrev Second : ℕ → Type 0
    Second w = IsIts m d (joint_network n o) p l owners whole ground (second_site n o) o two_stands second k theirs w

    both : (a b w : ℕ) → Owns (first_site n o) n a → Owns (second_site n o) o b → HasIt a w → HasIt b w → ⊥
    both a b w x y f g = owned_once a x (subst (Owns (second_site n o) o) (sym (one_net_has a b w f g)) y)

    never_both : (w : ℕ) → First w → Second w → ⊥
    never_both w (inl a) (inl b) = both a.0 b.0 w a.1 b.1 a.2 b.2
    never_both w (inl a) (inr b) = by (table_pin m d (joint_network n o) p l owners whole ground (second_site n o) o two_stands second k theirs b.0 b.2 b.1 b.3)
      where
        by : ((c : ℕ) × Owns (second_site n o) o c × HasIt c (table_wire m (place_of p (length n.tables + b.0)) b.2)) ⊎ ((c : ℕ) → ¬ HasIt c (table_wire m (place_of p (length n.tables + b.0)) b.2)) → ⊥
        by (inl r) = both a.0 r.0 w a.1 r.1 a.2 (subst (HasIt r.0) (sym b.4) r.2)
        by (inr none) = none a.0 (subst (HasIt a.0) b.4 a.2)
    never_both w (inr a) (inl b) = by (table_pin m d (joint_network n o) p l owners whole ground (first_site n o) n one_stands first i its a.0 a.2 a.1 a.3)
      where
        by : ((c : ℕ) × Owns (first_site n o) n c × HasIt c (table_wire m (place_of p (0 + a.0)) a.2)) ⊎ ((c : ℕ) → ¬ HasIt c (table_wire m (place_of p (0 + a.0)) a.2)) → ⊥
        by (inl r) = both r.0 b.0 w r.1 b.1 (subst (HasIt r.0) (sym a.4) r.2) b.2
        by (inr none) = none b.0 (subst (HasIt b.0) a.4 b.2)
    never_both w (inr a) (inr b) =
        let e = long_tables n o in
        let la : 0 + a.0 < length (joint_network n o).tables = let h = a.1 in omega (arith, h, e) in
        let lb : length n.tables + b.0 < length (joint_network n o).tables = let h = b.1 in omega (arith, h, e) in
        let places = ((ground.numbered m).tables_apart (place_of p (0 + a.0)) (place_of p (length n.tables + b.0)) a.2 b.2 (place_within m d (joint_network n o) p l owners whole ground (0 + a.0) la) (place_within m d (joint_network n o) p l owners whole ground (length n.tables + b.0) lb) a.3 b.3 (sym a.4 ∙ b.4)).0 in
        let same = one_place m d (joint_network n o) p l owners whole ground (0 + a.0) (length n.tables + b.0) la lb places in
        absurd (let h = a.1 in let no : ⊥ = omega (arith, same, h) in no)

    one_closed : (x : ℕ) → (is_closed whole.config x ≡ true) ↔ ((is_closed i.config x ≡ true) ⊎ (is_closed k.config x ≡ true))
    one_closed x = (to, from)
      where
        to : is_closed whole.config x ≡ true → (is_closed i.config x ≡ true) ⊎ (is_closed k.config x ≡ true)
        to on =
            let c = joint_of m d (joint_network n o) p l owners whole ground x on in
            by c (owned c.net (net_within m d (joint_network n o) p l owners whole ground c.node c.net c.line c.has_line))
          where
            by : (c : Joint m d (joint_network n o) p l owners whole ground x) → Owns (first_site n o) n c.net ⊎ Owns (second_site n o) o c.net → (is_closed i.config x ≡ true) ⊎ (is_closed k.config x ≡ true)
            by c (inl h) = inl (here_net m d (joint_network n o) p l owners whole ground (first_site n o) n one_stands first i its x on c h)
            by c (inr h) = inr (here_net m d (joint_network n o) p l owners whole ground (second_site n o) o two_stands second k theirs x on c h)

        from : (is_closed i.config x ≡ true) ⊎ (is_closed k.config x ≡ true) → is_closed whole.config x ≡ true
        from (inl on) = (its.share.only x on).0
        from (inr on) = (theirs.share.only x on).0

    is_some : {o : Option Setting} {s : Setting} → o ≡ Some s → IsSome o
    is_some e = rw e refl

    -- a table of one's own does in the whole what it does alone
    here_first : (t j : ℕ) → j < length n.tables → place_of p (0 + j) ≡ t → setting_of whole.config t ≡ setting_of i.config t
    here_first t j h e = ap (setting_of whole.config) (sym e) ∙ sym (same_setting m d (joint_network n o) p l owners whole ground (first_site n o) n one_stands first i its j h) ∙ ap (setting_of i.config) e

    here_second : (t j : ℕ) → j < length o.tables → place_of p (length n.tables + j) ≡ t → setting_of whole.config t ≡ setting_of k.config t
    here_second t j h e = ap (setting_of whole.config) (sym e) ∙ sym (same_setting m d (joint_network n o) p l owners whole ground (second_site n o) o two_stands second k theirs j h) ∙ ap (setting_of k.config) e

    one_table : (t : ℕ) (s : Setting) → (setting_of whole.config t ≡ Some s) ↔ ((setting_of i.config t ≡ Some s) ⊎ (setting_of k.config t ≡ Some s))
    one_table t s = (to, from)
      where
        to : setting_of whole.config t ≡ Some s → (setting_of i.config t ≡ Some s) ⊎ (setting_of k.config t ≡ Some s)
        to e = let r = ground.route.routed.sets.no_others t (is_some e) in by r (cases_lt r.0 (length n.tables))
          where
            by : (r : (j : ℕ) × (j < length (joint_network n o).tables) × (place_of p j ≡ t)) → (r.0 < length n.tables) ⊎ (length n.tables ≤ r.0) → (setting_of i.config t ≡ Some s) ⊎ (setting_of k.config t ≡ Some s)
            by r (inl h) = inl (sym (here_first t r.0 h (ap (place_of p) (let z : 0 + r.0 ≡ r.0 = omega arith in z) ∙ r.2)) ∙ e)
            by r (inr h) =
                let q = long_tables n o in
                let lo : r.0 - length n.tables < length o.tables = let g = r.1 in omega (arith, g, h, q) in
                inr (sym (here_second t (r.0 - length n.tables) lo (ap (place_of p) (let z : length n.tables + (r.0 - length n.tables) ≡ r.0 = omega (arith, h) in z) ∙ r.2)) ∙ e)

        from : (setting_of i.config t ≡ Some s) ⊎ (setting_of k.config t ≡ Some s) → setting_of whole.config t ≡ Some s
        from (inl e) = let r = table_its m d (joint_network n o) p l owners whole ground (first_site n o) n one_stands first i its t (is_some e) in here_first t r.0 r.1 r.2 ∙ e
        from (inr e) = let r = table_its m d (joint_network n o) p l owners whole ground (second_site n o) o two_stands second k theirs t (is_some e) in here_second t r.0 r.1 r.2 ∙ e

    many_inputs : length whole.inputs ≡ n.inputs + o.inputs
    many_inputs = ap length ground.route.inputs ∙ ground.plan.inputs

    many_outputs : length whole.outputs ≡ length n.outputs + length o.outputs
    many_outputs = ap length ground.route.outputs ∙ ground.plan.outputs ∙ long_outputs n o

    are_tenants : AreTenants whole i k
    are_tenants = record {
      first_shape = its.share.shape;
      second_shape = theirs.share.shape;
      closed = one_closed;
      tables = one_table;
      inputs = sym ((λ j. its.inputs j ++ theirs.inputs j) ∙ both_parts n.inputs o.inputs whole.inputs many_inputs);
      outputs = sym ((λ j. its.outputs j ++ theirs.outputs j) ∙ both_parts (length n.outputs) (length o.outputs) whole.outputs many_outputs);
      apart = λ w a b. never_both w
          (uses_its m d (joint_network n o) p l owners whole ground (first_site n o) n one_stands first i its w a)
          (uses_its m d (joint_network n o) p l owners whole ground (second_site n o) o two_stands second k theirs w b);
      first_ticks = its.share.ticks;
      second_ticks = theirs.share.ticks;
    }

    module _ (free : IsFreeImage d whole) (reading : (f : Faults) → Covers m d f → IsRightForNetwork f whole (joint_network n o)) (one : HaveOneRows) where
      apart : (f : Faults) → Covers m d f → StandApart f whole i k
      apart f covers =
          let pins = (own_pins m d (joint_network n o) p l owners whole ground (first_site n o) n one_stands first i its).inputs in
          record {
            first_alone = runs_alone m d (joint_network n o) p l owners whole ground reading one (first_site n o) n one_stands first i its f covers;
            second_alone = subst (RunsAsAlone f whole k) (sym pins) (runs_alone m d (joint_network n o) p l owners whole ground reading one (second_site n o) o two_stands second k theirs f covers);
          }

      both_rows : (f : Faults) → Covers m d f → ReadsRows f whole (AreBothRows n o)
      both_rows f covers vectors reads lens run =
          let all = reading f covers vectors reads lens run in
          record {
            first = rows_of (first_site n o) n (joint_network n o) one_stands first vectors (map (image_row whole) reads) all;
            second = rows_of (second_site n o) o (joint_network n o) two_stands second vectors (map (image_row whole) reads) all;
            wide = all_map (image_row whole) (λ r. length (image_row whole r) ≡ length n.outputs + length o.outputs) (λ row. length row ≡ length n.outputs + length o.outputs) (λ r h. h) reads
                (λ j e h. length-map whole.outputs (λ k. get_or (get_or reads j e) k true) ∙ many_outputs);
          }

      split_is : IsSplit m d n o whole i k
      split_is = record {
        shape = ground.route.routed.shape;
        tenants = are_tenants;
        free = free;
        first_free = tenant_free m d (joint_network n o) p l owners whole ground (first_site n o) n one_stands first i its;
        second_free = tenant_free m d (joint_network n o) p l owners whole ground (second_site n o) o two_stands second k theirs;
        first_pins = own_pins m d (joint_network n o) p l owners whole ground (first_site n o) n one_stands first i its;
        second_pins = own_pins m d (joint_network n o) p l owners whole ground (second_site n o) o two_stands second k theirs;
        apart = apart;
        first_right = λ f covers. tenant_reads m d (joint_network n o) p l owners whole ground (first_site n o) n one_stands first i its f covers;
        second_right = λ f covers. tenant_reads m d (joint_network n o) p l owners whole ground (second_site n o) o two_stands second k theirs f covers;
        rows = both_rows;
      }

  -- so where the network is equal to the joint one, and the places are equal to theirs
  pub first_in : (joint : Network) (s : Site) → joint ≡ joint_network n o → s ≡ first_site n o → StandsIn s n joint
  first_in joint s e at = subst (λ z. StandsIn s n z) (sym e) (subst (λ z. StandsIn z n (joint_network n o)) (sym at) one_stands)

  pub second_in : (joint : Network) (s : Site) → joint ≡ joint_network n o → s ≡ second_site n o → StandsIn s o joint
  second_in joint s e at = subst (λ z. StandsIn s o z) (sym e) (subst (λ z. StandsIn z o (joint_network n o)) (sym at) two_stands)

  pub split_of : (m : Shape) (d : Defects) (p : Plan) (l : Layout) (owners : List (Option ℕ)) (whole : ImageValue) (joint : Network) → joint ≡ joint_network n o → Ground m d joint p l owners whole → (i k : ImageValue) →
      IsTenant (first_site n o) n p owners whole i → IsTenant (second_site n o) o p owners whole k → IsFreeImage d whole → ((f : Faults) → Covers m d f → IsRightForNetwork f whole joint) → HaveOneRows → IsSplit m d n o whole i k
  split_of m d p l owners whole joint e ground i k its theirs free reading one =
      split_is m d p l owners whole (subst (λ z. Ground m d z p l owners whole) e ground) i its k theirs free (λ f covers. subst (IsRightForNetwork f whole) e (reading f covers)) one
