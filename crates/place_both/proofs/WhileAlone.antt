-- Of two designs each has its rows as long as its own part of the image is left alone.
use Rattle.std.proofs.Common.{◌≡◌, ◌+◌, ◌≤◌, ℕ, Bool, List, [], ◌∷◌, ◌++◌, map, length, take, drop, get_or, refl, sym, ap, ◌∙◌, subst, arith}
use Rattle.place_both.proofs.Vocabulary.{All, Pins, DefectList, NetlistData, AreRows, IsRightImage, part, RunsAsAloneOver, IsImageForBoth}
use Rattle.std.proofs.lemmas.List.{take-map, map-append, take_at, drop_at, length-map, length-append, length-take-le, length-drop}
use Rattle.std.proofs.lemmas.List.Elements.{All-map, recursion_from_All}
use Rattle.machine_config.specs.Vocabulary.{IsConfiguration}
use Rattle.machine_image.specs.Images.{ImageValue, drive_of, image_row, row_at}
use Rattle.machine_history.specs.Vocabulary.{History, IsRunOver}
use Rattle.machine_history.proofs.RowsOver.{clean, clean_faultless, clean_run}
use Rattle.place_pair.proofs.Lonely.{first_alone, second_alone}
use Rattle.rig.specs.Rig.{RigState, cycles_of, drives_of, readings_of}
use Rattle.place_both.specs.Alone.{AreRightWhileAlone}
use Rattle.place_both.proofs.RowsOfBoth.{rests-are}

-- a row of a whole is the first's and then the second's
fronts : (xs ys : List ℕ) (k : ℕ) → length xs ≡ k → (reads : List Pins) → map (take k) (map (row_at (xs ++ ys)) reads) ≡ map (row_at xs) reads
fronts xs ys k e [] = refl
fronts xs ys k e (r ∷ rs) =
    let row = row_at xs r in
    let one : take k (row_at (xs ++ ys) r) ≡ row = ap (take k) (map-append _ xs ys) ∙ take_at row (row_at ys r) k (length-map xs _ ∙ e) in
    λ j. one j ∷ fronts xs ys k e rs j

backs : (xs ys : List ℕ) (k : ℕ) → length xs ≡ k → (reads : List Pins) → map (drop k) (map (row_at (xs ++ ys)) reads) ≡ map (row_at ys) reads
backs xs ys k e [] = refl
backs xs ys k e (r ∷ rs) =
    let row = row_at xs r in
    let one : drop k (row_at (xs ++ ys) r) ≡ row_at ys r = ap (drop k) (map-append _ xs ys) ∙ drop_at row (row_at ys r) k (length-map xs _ ∙ e) in
    λ j. one j ∷ backs xs ys k e rs j

-- a tenant reads the first of its own rows
tenant-right : (draft : NetlistData) (whole tenant : ImageValue) → IsConfiguration tenant.config → (from n : ℕ) (h : History) → RunsAsAloneOver h n whole tenant from → IsRightImage clean tenant draft → (vectors : List (List Bool)) (reads : List Pins) →
    All (λ v. length v ≡ length tenant.inputs) (map (part from (length tenant.inputs)) vectors) → IsRunOver h whole.config (map (drive_of whole) vectors) reads →
    (right : List (List Bool)) × AreRows draft (map (part from (length tenant.inputs)) vectors) right × (take n (map (image_row tenant) reads) ≡ take n right)
tenant-right draft whole tenant is from n h alone right vectors reads widths p =
    let own = map (part from (length tenant.inputs)) vectors in
    let r = clean_run tenant.config is (map (drive_of tenant) own) in (
      map (image_row tenant) r.0,
      right own r.0 widths r.1,
      take-map (image_row tenant) n reads ∙ alone clean vectors reads r.0 clean_faultless p r.1 ∙ sym (take-map (image_row tenant) n r.0),
    )

-- as many bits of each vector
part-widths : (from k m : ℕ) → from + k ≤ m → (vectors : List (List Bool)) → All (λ v. length v ≡ m) vectors → All (λ v. length v ≡ k) (map (part from k) vectors)
part-widths from k m few vectors wide = All-map (λ v. length v ≡ k) (part from k) vectors (λ i d l. long (get_or vectors i d) (wide i d l))
  where
    long : (v : List Bool) → length v ≡ m → length (part from k v) ≡ k
    long v e = let rest = length-drop from v in length-take-le k (drop from v) (omega (arith, rest, e, few))

module _ (d : DefectList) (first second : NetlistData) (image : ImageValue) (both : IsImageForBoth d first second image) (vectors rows : List (List Bool)) (rig : RigState)
    (widths : All (λ v. length v ≡ length image.inputs) vectors)
    (driven_are : drives_of (cycles_of rig) ≡ map (drive_of image) vectors) (rows_read : rows ≡ map (image_row image) (readings_of (cycles_of rig))) where
  abbrev one : ImageValue
  one = both.first_image

  abbrev other : ImageValue
  other = both.second_image

  abbrev reads : List Pins
  reads = readings_of (cycles_of rig)

  many : length image.inputs ≡ length one.inputs + length other.inputs
  many = ap length both.tenants.inputs ∙ length-append one.inputs other.inputs

  rows-are : rows ≡ map (row_at (one.outputs ++ other.outputs)) reads
  rows-are = rows_read ∙ ap (λ os. map (row_at os) reads) both.tenants.outputs

  driven : (h : History) → IsRunOver h image.config (drives_of (cycles_of rig)) reads → IsRunOver h image.config (map (drive_of image) vectors) reads
  driven h ran = subst (λ ds. IsRunOver h image.config ds reads) driven_are ran

  pub first-right : IsRightImage clean one first → AreRightWhileAlone rig image one first (map (take (length first.inputs)) vectors) (map (take (length first.outputs)) rows)
  first-right right h n left ran =
      let r = tenant-right first image one both.first_is.config 0 n h (first_alone image one other both.image both.tenants h n left) right vectors reads
      (part-widths 0 (length one.inputs) (length image.inputs) (omega (arith, many)) vectors widths) (driven h ran) in (
        r.0,
        subst (λ k. AreRows first (map (take k) vectors) r.0) both.first_inputs r.1,
        ap (λ rs. take n (map (take (length first.outputs)) rs)) rows-are ∙ ap (take n) (fronts one.outputs other.outputs (length first.outputs) both.first_outputs reads) ∙ r.2,
      )

  pub second-right : IsRightImage clean other second → AreRightWhileAlone rig image other second (map (drop (length first.inputs)) vectors) (map (drop (length first.outputs)) rows)
  second-right right h n left ran =
      let r = tenant-right second image other both.second_is.config (length one.inputs) n h (second_alone image one other both.image both.tenants h n left) right vectors reads
      (part-widths (length one.inputs) (length other.inputs) (length image.inputs) (omega (arith, many)) vectors widths) (driven h ran) in
      let rests = rests-are (length one.inputs) (length other.inputs) vectors (recursion_from_All (λ v. length v ≡ length one.inputs + length other.inputs) vectors (subst (λ k. All (λ v. length v ≡ k) vectors) many widths)) in (
        r.0,
        subst (λ k. AreRows second (map (drop k) vectors) r.0) both.first_inputs (subst (λ vs. AreRows second vs r.0) rests r.1),
        ap (λ rs. take n (map (drop (length first.outputs)) rs)) rows-are ∙ ap (take n) (backs one.outputs other.outputs (length first.outputs) both.first_outputs reads) ∙ r.2,
      )
