-- What a tenant shares with its whole.
use Rattle.std.proofs.Common.{◌≡◌, ℕ, Some, None, Option, refl, ap, ◌∙◌, IsSome}
use Rattle.machine_history.proofs.Vocabulary.{false≢true, ends_of, pin_wire, table_wire, Setting, setting_of, IsTenantOf}
use Rattle.machine_image.specs.Vocabulary.{ImageValue, Uses, at_pin, at_tap, at_line, at_table}

pub tenant_of_itself : (i : ImageValue) → IsTenantOf i i
tenant_of_itself i = record {
  shape = refl;
  ticks = refl;
  crosses = λ x on. on;
  tables = λ t s e. e;
  pins = λ k has. has;
  own_taps = λ x on used. on;
  own_lines = λ x on used. on;
  own_tables = λ t k on h used. on;
  own_pins = λ k has used. has;
}

-- a table that is on is on in the whole
pub on_there : (a b : Option Setting) → ((s : Setting) → a ≡ Some s → b ≡ Some s) → IsSome a → IsSome b
on_there None b there on = absurd (false≢true on)
on_there (Some s) b there on = rw (there s refl) refl

module _ (whole tenant : ImageValue) (is : IsTenantOf whole tenant) where
  pub uses_there : (w : ℕ) → Uses tenant w → Uses whole w
  uses_there w (at_pin k has e) = at_pin k (is.pins k has) (e ∙ ap (λ m. pin_wire m k) is.shape)
  uses_there w (at_tap x on e) = at_tap x (is.crosses x on) (e ∙ ap (λ m. (ends_of m x).0) is.shape)
  uses_there w (at_line x on e) = at_line x (is.crosses x on) (e ∙ ap (λ m. (ends_of m x).1) is.shape)
  uses_there w (at_table t k on h e) = at_table t k (on_there (setting_of tenant.config t) (setting_of whole.config t) (is.tables t) on) h (e ∙ ap (λ m. table_wire m t k) is.shape)
