-- What leaves a tenant alone.
use Rattle.std.proofs.Common.{◌≡◌, ℕ, ◌<◌, Bool, true, false, Some, None, Option, ◌++◌, refl, sym, unwrap_or, IsSome}
use Rattle.machine_history.proofs.Vocabulary.{false≢true, All-contains, in_order, turned, pin_wire, pins_of, tables_of, wires_of}
use Rattle.machine_history.proofs.Vocabulary.{IsNumbered, Shape, setting_of, on_below, true_some, LeavesAlone, AreAmong}
use Rattle.machine_meaning.specs.Vocabulary.{Faults, IsFaultless, stuck_wire, stuck_cross, here, then, crossed, bridged, Shorted, Defects, Covers, IsFreeWire}
use Rattle.machine_meaning.proofs.Clear.{clear_of_sound}
use Rattle.machine_meaning.proofs.Faultless.{all_sound}
use Rattle.machine_image.specs.Vocabulary.{ImageValue, IsImage, IsFreeImage, Uses, at_pin, at_tap, at_line, at_table}

not_open : {o : Option Bool} → o ≡ None → o ≡ Some false → ⊥
not_open e f = cc

-- ---- no faults

pub faultless_alone : (whole tenant : ImageValue) (f : Faults) → IsFaultless f → LeavesAlone f whole tenant
faultless_alone whole tenant f none = record {
  crosses = λ x on e. not_open (none.crosses x) e;
  clear = λ w used. clear_of_sound (all_sound none w);
  apart = λ w u used on s. sym ((all_sound none w).alone u s);
  cells = λ t a on h. none.cells t a;
  registers = λ t s on latched. none.registers t;
}

-- ---- fewer faults

none_of : (o p : Option Bool) → ((b : Bool) → o ≡ Some b → p ≡ Some b) → p ≡ None → o ≡ None
none_of None p more e = refl
none_of (Some b) p more e = let f : p ≡ Some b = more b refl in cc

conducts_too : (o p : Option Bool) → ((b : Bool) → o ≡ Some b → p ≡ Some b) → unwrap_or o false ≡ true → unwrap_or p false ≡ true
conducts_too None p more e = absurd (false≢true e)
conducts_too (Some b) p more e = rw (more b refl) e

module _ (f more : Faults) (among : AreAmong f more) where
  shorted_too : (m : Shape) {a b : ℕ} → Shorted m f a b → Shorted m more a b
  shorted_too m here = here
  shorted_too m (then j (crossed x on at)) = then (shorted_too m j) (crossed x (conducts_too (stuck_cross f x) (stuck_cross more x) (among.crosses x) on) at)
  shorted_too m (then j (bridged p is at)) = then (shorted_too m j) (bridged p (among.bridges p is) at)

  pub fewer_alone : (whole tenant : ImageValue) → LeavesAlone more whole tenant → LeavesAlone f whole tenant
  fewer_alone whole tenant alone = record {
    crosses = λ x on e. alone.crosses x on (among.crosses x false e);
    clear = λ w used u s. none_of (stuck_wire f u) (stuck_wire more u) (among.wires u) (alone.clear w used u (shorted_too whole.config.shape s));
    apart = λ w u used on s. alone.apart w u used on (shorted_too whole.config.shape s);
    cells = λ t a on h. none_of _ _ (among.cells t a) (alone.cells t a on h);
    registers = λ t s on latched. none_of _ _ (among.registers t) (alone.registers t s on latched);
  }

-- ---- what a list covers

module _ (d : Defects) (i : ImageValue) (f : Faults) (numbered : IsNumbered i.config.shape) (is : IsImage i) (free : IsFreeImage d i) (covers : Covers i.config.shape d f) where
  table_within : (t : ℕ) → IsSome (setting_of i.config t) → t < tables_of i.config.shape
  table_within t on = on_below i.config is.config t (true_some (setting_of i.config t) on)

  used_free : (w : ℕ) → Uses i w → (w < wires_of i.config.shape) × IsFreeWire d w
  used_free w (at_pin k has e) = rw e (numbered.pins k (All-contains (λ q. q < pins_of i.config.shape) (i.inputs ++ i.outputs) k is.within has), All-contains (λ q. IsFreeWire d (pin_wire i.config.shape q)) (i.inputs ++ i.outputs) k free.pins has)
  used_free w (at_tap x on e) = rw e (numbered.ends x _ _ (is.config.crosses x on) (in_order refl refl), (free.crosses x on).tap)
  used_free w (at_line x on e) = rw e (numbered.ends x _ _ (is.config.crosses x on) (turned refl refl), (free.crosses x on).line)
  used_free w (at_table t k on h e) = rw e (numbered.tables t k (table_within t on) h, (free.tables t on).pins k h)

  pub covered_alone : LeavesAlone f i i
  covered_alone = record {
    crosses = λ x on e. not_open (covers.crosses x (is.config.crosses x on) (free.crosses x on)) e;
    clear = λ w used. let r = used_free w used in covers.wires w r.0 r.1;
    apart = λ w u used on s. let a = used_free w used in let b = used_free u on in covers.pairs w u a.0 b.0 a.1 b.1 s;
    cells = λ t a on h. covers.cells t a (table_within t on) h (free.tables t on);
    registers = λ t s e latched. let on : IsSome (setting_of i.config t) = rw e refl in covers.registers t (table_within t on) (free.tables t on);
  }
