-- The test of an image, step by step.
use Rattle.std.proofs.Common.{◌≡◌, ℕ, ◌+◌, ◌*◌, ◌≤◌, Bool, true, false, Some, None, Option, List, length, refl, sym, ap, ◌∙◌, subst, arith, ◌==◌, ◌&&◌, not, if◌then◌else◌, is_some, IsTrue}
use Rattle.diag_check.proofs.Vocabulary.{count_by, false≢true, count_by-le-length, has_number, size_of, Table, IsNumbered, table_wire}
use Rattle.diag_check.proofs.Vocabulary.{setting_of, ImageValue, IsImage, IsWideEnough, at_table, Kept, HoldsFor, IsMore, holds_untried}
use Rattle.diag_check.proofs.Vocabulary.{IsFieldOf, ClosedIf, SeatedAreKept, fresh_tables, keeps_table, Field, VerifiedWire, IsFewFor}
use Rattle.diag_check.proofs.Vocabulary.{AreSurroundings, HasSkeleton, AreUsed, AreInvolved, of_set, to_set}
use Rattle.machine_meaning.specs.Faults.{Faults}
use Rattle.diag_known.proofs.Counting.{many_more, many_size}
use Rattle.diag_sweep.specs.{Marks.undecided, declared.defect_marks.DefectMarks.DefectMarks}
use Rattle.diag_check.specs.Looks.{AreRoutesKnown, KeepsTableOf, AreSeated, RoutesIf, TablesIf, FieldIf, WholeIf, FewerIf, TakesForTables, TakesInField, TakesAtMost, TakesAround, HasClosed, HasTablesOn}
use Rattle.diag_check.specs.Soundly.{KeepsRoutesInSet, KeepsTables, KeepsParts, SoundIf, YesIf, FewIf, IsSoundUnder, IsUnharmed, StandsBySurroundings, HasSurroundings}
use Rattle.diag_check.proofs.Covering.{on_within, used_within}
use Rattle.diag_check.proofs.Counting.{list_fits, list_marks, marks_fit, for_parts}
use Rattle.diag_check.proofs.Looking.{routes_kept, routes_stay, tables_kept, tests_keep}
use Rattle.diag_check.proofs.Wholly.{AreLaws, routes_known, seated}
use Rattle.diag_check.proofs.Ways.{routes_near, seats_near}

-- growth reaches all that an unharmed image needs, and all that one needs that stands by its surroundings
pub routes_if : (told : Option Faults) (old new : Kept) (ss : List VerifiedWire) (i : ImageValue) (used : List Bool) (a : Field) (answer : Bool) → AreLaws i.config.shape → IsImage i → AreUsed i used → IsFieldOf i.config.shape a → new.shape ≡ i.config.shape →
    ClosedIf told new a ss → ((f : Faults) → told ≡ Some f → HoldsFor old f → HoldsFor new f) → (AreRoutesKnown new ss i → IsTrue answer) → RoutesIf told old new ss i a answer
routes_if told old new ss i used a answer laws right are fits shape closed holds_on known = record { at = at; ways = ways }
  where
    at : (f : Faults) → told ≡ Some f → HoldsFor old f → IsUnharmed f i → HasSkeleton i a → IsTrue answer × AreSeated new ss i
    at f is holds unharmed sk =
        let grown = closed.at f is (holds_untried (holds_on f is holds)) in
        let within = used_within i used right are in (
          known (routes_known i laws within f unharmed a fits sk new shape ss grown),
          λ t on. seated i laws within f unharmed a fits sk new shape ss grown t on (on_within i right t on),
        )

    ways : (f : Faults) → told ≡ Some f → HoldsFor old f → StandsBySurroundings f i → AreSurroundings i a → IsTrue answer × AreSeated new ss i
    ways f is holds stands around =
        let grown = closed.at f is (holds_untried (holds_on f is holds)) in
        (known (routes_near i right f stands a around new shape ss grown), λ t on. seats_near i right f stands a around new shape ss grown t on)

-- the tests of the tables that are on keep what the image needs of them, where they are seated
pub tables_if : (told : Option Faults) (k l : Kept) (ss : List VerifiedWire) (i : ImageValue) (tables : List Table) (answer : Bool) → ((t : ℕ) → count_by (λ (y : Table). y.0 == t) tables ≡ (if is_some (setting_of i.config t) then 1 else 0)) →
    SeatedAreKept told k l ss tables → (KeepsTables l i → IsTrue answer) → TablesIf told k ss i answer
tables_if told k l ss i tables answer counts kept known = record {
  at = λ f is holds parts seated_all. known (tables_kept l i (to_set (λ (t : Table). t.0) tables (λ q. is_some (setting_of i.config q)) counts (KeepsTableOf l i)
      (tests_keep told k l ss i f tables kept is holds parts seated_all (of_set (λ (t : Table). t.0) tables (λ q. is_some (setting_of i.config q)) counts (λ q. is_some (setting_of i.config q) ≡ true) (λ q e. e)))));
}

-- So many loads for each of them are so many for any list that has them. There are no more of them than used wires, since each has an
-- output
pub loads_tables : (k : Kept) (i : ImageValue) (used : List Bool) (tables : List Table) (before after : ℕ) → IsNumbered i.config.shape → IsImage i → AreUsed i used →
    ((t : ℕ) → count_by (λ (y : Table). y.0 == t) tables ≡ (if is_some (setting_of i.config t) then 1 else 0)) → after ≤ before + 130 * fresh_tables k tables → TakesForTables i used before after
loads_tables k i used tables before after numbered right are counts loads = record { few = few }
  where
    few : (ts : List ℕ) → HasTablesOn i ts → after ≤ before + (126 * length ts + 4 * size_of used)
    few ts on =
        let fresh = count_by-le-length (λ (t : Table). not (keeps_table k t.0)) tables in
        let fits = list_fits (λ (t : Table). t.0) tables (λ q. is_some (setting_of i.config q)) counts ts on in
        let marked = list_marks (λ (t : Table). t.0) tables (λ q. is_some (setting_of i.config q)) counts (λ q. table_wire i.config.shape q 6) used
        (λ q e. are.all (table_wire i.config.shape q 6) (at_table q 6 e (omega arith) refl))
        (λ p q a b e. (numbered.tables_apart p q 6 6 (on_within i right p a) (on_within i right q b) (omega arith) (omega arith) e).0) in
        omega (arith, loads, fresh, fits, marked)

-- ---- in one field

pub parts_found : (k l : Kept) (i : ImageValue) (answer : Bool) → IsMore k l → KeepsRoutesInSet k i → (IsTrue answer → KeepsTables l i) → IsTrue answer → KeepsParts l i
parts_found k l i answer more routes tables e = record { routes = routes_kept (routes_stay more routes); tables = tables e }

pub field_found : {told : Option Faults} {k l : Kept} {ss : List VerifiedWire} {i : ImageValue} {a : Field} {yes answer : Bool} → ((f : Faults) → told ≡ Some f → HoldsFor k f → HoldsFor l f) → RoutesIf told k l ss i a yes → TablesIf told l ss i answer →
    FieldIf told k i a answer
field_found later routes tables = record {
  at = λ f is holds unharmed sk. tables.at f is (later f is holds) unharmed.parts (routes.at f is holds unharmed sk).1;
  ways = λ f is holds stands around. tables.at f is (later f is holds) stands.parts (routes.ways f is holds stands around).1;
}

pub field_lost : {told : Option Faults} {k l : Kept} {ss : List VerifiedWire} {i : ImageValue} {a : Field} {yes : Bool} → yes ≡ false → RoutesIf told k l ss i a yes → FieldIf told k i a false
field_lost off routes = record {
  at = λ f is holds unharmed sk. absurd (false≢true (sym off ∙ (routes.at f is holds unharmed sk).0));
  ways = λ f is holds stands around. absurd (false≢true (sym off ∙ (routes.ways f is holds stands around).0));
}

pub loads_field : (i : ImageValue) (used : List Bool) (a : Field) (before mid after : ℕ) → mid ≤ before + (8 * size_of a.crosses + 3 * size_of a.wires) → TakesForTables i used mid after → TakesInField i used a before after
loads_field i used a before mid after grown tables = record { few = λ ts on. let loads = tables.few ts on in omega (arith, grown, loads) }

pub loads_grown : (i : ImageValue) (used : List Bool) (a : Field) (before after : ℕ) → after ≤ before + (8 * size_of a.crosses + 3 * size_of a.wires) → TakesInField i used a before after
loads_grown i used a before after grown = record { few = λ ts on. omega (arith, grown) }

-- ---- in both fields

pub whole_always : {told : Option Faults} {k : Kept} {i : ImageValue} → WholeIf told k i true
whole_always = record { at = λ f is holds unharmed. refl; ways = λ f is holds stands. refl }

-- The first field isn't enough: then the image isn't unharmed, and what stands by its surroundings is found in the second
pub whole_then : {told : Option Faults} {k l n : Kept} {i : ImageValue} {a b : Field} {found answer : Bool} → ((f : Faults) → told ≡ Some f → HoldsFor k f → HoldsFor l f) → ((f : Faults) → told ≡ Some f → HoldsFor k f → HoldsFor n f) →
    (IsWideEnough i.config.shape i → HasSkeleton i a) → AreSurroundings i b → found ≡ false → FieldIf told l i a found → FieldIf told n i b answer → WholeIf told k i answer
whole_then later last skeleton around off first second = record {
  at = λ f is holds unharmed. absurd (false≢true (sym off ∙ first.at f is (later f is holds) unharmed (skeleton unharmed.wide)));
  ways = λ f is holds stands. second.ways f is (last f is holds) stands around;
}

pub fewer_then : {told : Option Faults} {k l : Kept} {i : ImageValue} {a : Field} {found : Bool} {nodes used : List Bool} {before after : ℕ} → ((f : Faults) → told ≡ Some f → HoldsFor k f → HoldsFor l f) → (IsWideEnough i.config.shape i → HasSkeleton i a) → found ≡ false →
    FieldIf told l i a found → FewerIf told k i nodes used before after
fewer_then later skeleton off first = record { at = λ f is holds unharmed. absurd (false≢true (sym off ∙ first.at f is (later f is holds) unharmed (skeleton unharmed.wide))) }

pub fewer_one : {told : Option Faults} {k : Kept} {i : ImageValue} {nodes used : List Bool} {before after : ℕ} → TakesAtMost i nodes used before after → FewerIf told k i nodes used before after
fewer_one takes = record { at = λ f is holds unharmed. takes }

pub loads_one : (i : ImageValue) (nodes used : List Bool) (a : Field) (before swept after : ℕ) → swept ≤ before + 170 * size_of used → IsFewFor i nodes used 2 a → TakesInField i used a swept after → TakesAtMost i nodes used before after
loads_one i nodes used a before swept after around few takes = record { few = by }
  where
    by : (xs ts : List ℕ) → HasClosed i xs → HasTablesOn i ts → after ≤ before + (238 * size_of nodes + 256 * size_of used + 16 * length xs + 130 * length ts)
    by xs ts closed on =
        let wires = few.wires in
        let crosses = few.crosses xs closed in
        let loads = takes.few ts on in omega (arith, around, wires, crosses, loads)

pub loads_more : (i : ImageValue) (nodes used : List Bool) (before after : ℕ) → TakesAtMost i nodes used before after → TakesAround i nodes used before after
loads_more i nodes used before after takes = record { few = λ xs ts crosses wires closed on around. let loads = takes.few xs ts closed on in omega (arith, loads) }

pub loads_two : (i : ImageValue) (nodes used : List Bool) (a b : Field) (before swept mid after : ℕ) → swept ≤ before + 170 * size_of used → IsFewFor i nodes used 2 a → AreSurroundings i b → TakesInField i used a swept mid → TakesInField i used b mid after → TakesAround i nodes used before after
loads_two i nodes used a b before swept mid after around few_a is first second = record { few = by }
  where
    by : (xs ts crosses wires : List ℕ) → HasClosed i xs → HasTablesOn i ts → HasSurroundings i crosses wires →
        after ≤ before + (238 * size_of nodes + 256 * size_of used + 16 * length xs + 256 * length ts) + (8 * length crosses + 3 * length wires)
    by xs ts crosses wires closed on has =
        let few_wires = few_a.wires in
        let few_crosses = few_a.crosses xs closed in
        let more_wires = marks_fit wires b.wires (λ w h. has.each_wire w (is.only_wires w h)) in
        let more_crosses = marks_fit crosses b.crosses (λ x h. has.each_cross x (is.only_crosses x h)) in
        let loads = first.few ts on in
        let more = second.few ts on in omega (arith, around, few_wires, few_crosses, more_wires, more_crosses, loads, more)

first_on : (a b : Bool) → (a && b) ≡ true → a ≡ true
first_on true b e = refl
first_on false b e = e

-- ---- the answer

pub sound_if : (told : Option Faults) (k l : Kept) (i : ImageValue) (answer : Bool) → ((f : Faults) → HoldsFor k f) → ((f : Faults) → told ≡ Some f → HoldsFor k f → HoldsFor l f) → (IsTrue answer → KeepsParts l i) →
    ((f : Faults) → HoldsFor l f → KeepsParts l i → IsSoundUnder f i) → SoundIf told i answer
sound_if told k l i answer nothing holds_on keeps law = record { at = λ f is so. law f (holds_on f is (nothing f)) (keeps so) }

pub yes_if : (told : Option Faults) (k : Kept) (i : ImageValue) (answer : Bool) → ((f : Faults) → HoldsFor k f) → WholeIf told k i answer → YesIf told i answer
yes_if told k i answer nothing whole = record { at = λ f is unharmed. whole.at f is (nothing f) unharmed; ways = λ f is stands. whole.ways f is (nothing f) stands }

pub few_if : (told : Option Faults) (k : Kept) (i : ImageValue) (nodes used : List Bool) (before after : ℕ) → ((f : Faults) → HoldsFor k f) → AreUsed i used → AreInvolved i nodes → FewerIf told k i nodes used before after → FewIf told i before after
few_if told k i nodes used before after nothing are involved few = record { at = λ f is unharmed. for_parts i nodes used before after are involved (few.at f is (nothing f) unharmed) }

-- ---- the sweep around an image

pub loads_swept : (k : Kept) (b : DefectMarks) (a : Field) (used : List Bool) (before after : ℕ) → 2 * size_of a.crosses + size_of a.wires ≤ 170 * size_of used → after ≤ before + (2 * undecided k b a + size_of a.wires) → after ≤ before + 170 * size_of used
loads_swept k b a used before after paid took = let few = undecided_few in omega (arith, paid, took, few)
  where
    undecided_few : undecided k b a ≤ size_of a.crosses
    undecided_few = subst (λ (n : ℕ). undecided k b a ≤ n) (many_size a.crosses) (many_more _ (has_number a.crosses) (length a.crosses) (λ x less on. first_on (has_number a.crosses x) _ on))

pub loads_around : (i : ImageValue) (nodes used : List Bool) (before after : ℕ) → after ≤ before + 170 * size_of used → TakesAtMost i nodes used before after
loads_around i nodes used before after around = record { few = λ xs ts closed on. omega (arith, around) }
