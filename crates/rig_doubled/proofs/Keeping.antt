-- What is kept of a session.
use Rattle.std.proofs.Common.{◌≡◌, ℕ, zero, suc, ◌+◌, ◌<◌, ◌≤◌, List, [], ◌∷◌, ◌++◌, map, length, take, drop, set, sym, ap, ◌∙◌, subst, arith}
use Rattle.std.proofs.lemmas.List.{take_more_set, take-append-le, take_all, length-set, length-append, length-map, map-append, take-append-drop}
use Rattle.std.proofs.lemmas.List.Elements.{All-set}
use Rattle.rig_doubled.proofs.Vocabulary.{Pins, pins_of, Roomy, KeepLengths, Kept, HaveWidth, IsRoomy, IsKept}

-- one row more of those that were made, of so many that were asked for
module _ (rows : List Pins) (made : ℕ) (row : Pins) (all : List Pins) where
  front_more : made < length rows → made ≡ length all → take made rows ≡ take made all → take (made + 1) (set rows made row) ≡ take (made + 1) (all ++ row ∷ [])
  front_more room here same =
      take_more_set rows made row room ∙ ap (λ xs. xs ++ row ∷ []) (same ∙ take_all made all (omega (arith, here)))
      ∙ sym (take_all (made + 1) (all ++ row ∷ []) (omega (arith, here, length-append all (row ∷ []))))

fronts : {m n : ℕ} {xs ys : List Pins} (zs : List Pins) → m ≡ n → xs ≡ ys → take n ys ≡ take n zs → take m xs ≡ take m zs
fronts {m} {n} {xs} {ys} zs count same front = ap (take m) same ∙ subst (λ k. take k ys ≡ take k zs) (sym count) front

wide_more : (n : ℕ) (rows : List Pins) (at : ℕ) (row : Pins) → length row ≡ n → HaveWidth n rows → HaveWidth n (set rows at row)
wide_more n rows at row is wide = All-set (λ (r : Pins). length r ≡ n) rows at row is wide

module _ (k : Kept) (drive reading : Pins) where
  pub full : (ds rs : List Pins) → length k.drives.items ≤ k.made → IsKept k ds rs → IsKept k (ds ++ drive ∷ []) (rs ++ reading ∷ [])
  full ds rs filled h =
      let d = length-append ds (drive ∷ []) in
      let r = length-append rs (reading ∷ []) in
      record {
        roomy = h.roomy;
        as_many = omega (arith, d, r, h.as_many);
        made = omega (arith, d, h.made, filled);
        driven = h.driven ∙ sym (take-append-le k.made ds (drive ∷ []) (omega (arith, h.made)));
        read = h.read ∙ sym (take-append-le k.made rs (reading ∷ []) (omega (arith, h.made, h.as_many)));
      }

  module _ (new : Kept) (room : k.made < length k.drives.items) (config : new.config ≡ k.config)
      (drives : new.drives.items ≡ set k.drives.items k.made drive) (readings : new.readings.items ≡ set k.readings.items k.made reading)
      (made : new.made ≡ k.made + 1) (again : new.again.items ≡ k.again.items)
      (drive_pins : length drive ≡ pins_of k.config.config.shape) (read_pins : length reading ≡ pins_of k.config.config.shape) where
    pub still_roomy : IsRoomy k → IsRoomy new
    still_roomy h =
        let wide = ap (λ (c : Roomy). pins_of c.config.shape) config in
        let d : length new.drives.items ≡ length k.drives.items = ap length drives ∙ length-set k.drives.items k.made drive in
        let r : length new.readings.items ≡ length k.readings.items = ap length readings ∙ length-set k.readings.items k.made reading in
        let a : length new.again.items ≡ length k.again.items = ap length again in
        record {
          drive_pins = subst (λ n. HaveWidth n new.drives.items) (sym wide) (subst (HaveWidth _) (sym drives) (wide_more _ k.drives.items k.made drive drive_pins h.drive_pins));
          read_pins = subst (λ n. HaveWidth n new.readings.items) (sym wide) (subst (HaveWidth _) (sym readings) (wide_more _ k.readings.items k.made reading read_pins h.read_pins));
          again_pins = subst (λ n. HaveWidth n new.again.items) (sym wide) (subst (HaveWidth _) (sym again) h.again_pins);
          readings = r ∙ h.readings ∙ sym d;
          again = a ∙ h.again ∙ sym d;
          made = omega (arith, room, d, made);
          few = omega (arith, h.few, d);
        }

    pub still_kept : (ds rs : List Pins) → IsKept k ds rs → IsKept new (ds ++ drive ∷ []) (rs ++ reading ∷ [])
    still_kept ds rs h =
        let d = length-append ds (drive ∷ []) in
        let r = length-append rs (reading ∷ []) in
        let here : k.made ≡ length ds = omega (arith, h.made, room) in
        let there : k.made ≡ length rs = omega (arith, here, h.as_many) in
        let long : k.made < length k.readings.items = omega (arith, room, h.roomy.readings) in
        let e : length new.drives.items ≡ length k.drives.items = ap length drives ∙ length-set k.drives.items k.made drive in
        record {
          roomy = still_roomy h.roomy;
          as_many = omega (arith, d, r, h.as_many);
          made = omega (arith, made, d, here, room, e);
          driven = fronts (ds ++ drive ∷ []) made drives (front_more k.drives.items k.made drive ds room here h.driven);
          read = fronts (rs ++ reading ∷ []) made readings (front_more k.readings.items k.made reading rs long there h.read);
        }

-- rows that are as many and as long as they were are as wide
pub wide_still : (n : ℕ) (rows new : List Pins) → KeepLengths rows new → HaveWidth n rows → HaveWidth n new
wide_still n [] [] same wide = wide
wide_still n [] (y ∷ ys) same wide = absurd (let no : ⊥ = cc in no)
wide_still n (x ∷ xs) [] same wide = absurd (let no : ⊥ = cc in no)
wide_still n (x ∷ xs) (y ∷ ys) same wide =
    let head : length y ≡ length x = cc in
    let tail : map length ys ≡ map length xs = cc in
    by (head ∙ wide 0 x (omega arith)) (wide_still n xs ys tail (λ k d h. wide (suc k) d (omega (arith, h))))
  where
    by : length y ≡ n → HaveWidth n ys → HaveWidth n (y ∷ ys)
    by first rest zero d h = first
    by first rest (suc k) d h = rest k d (omega (arith, h))

pub many_still : (rows new : List Pins) → KeepLengths rows new → length new ≡ length rows
many_still rows new same = sym (length-map new length) ∙ ap length same ∙ length-map rows length

-- rows of which the first were read again
pub keeps_front : (n : ℕ) (xs new : List Pins) → map length new ≡ map length (take n xs) → KeepLengths xs (new ++ drop n xs)
keeps_front n xs new same =
    map-append length new (drop n xs) ∙ ap (λ l. l ++ map length (drop n xs)) same
    ∙ sym (map-append length (take n xs) (drop n xs)) ∙ ap (map length) (take-append-drop n xs)

-- a vector of which all rows are given anew
pub refill : (n : ℕ) (new items : List Pins) → length new ≡ n → take n (new ++ drop (length new) items) ≡ new
refill n new items full = take-append-le n new (drop (length new) items) (omega (arith, full)) ∙ take_all n new (omega (arith, full))
