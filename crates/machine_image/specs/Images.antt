-- Images: a configuration with its input pins and its output pins, and their bytes.
use Rattle.std.specs.Prelude.{◌≡◌, ◌≢◌, ℕ, ◌+◌, ◌<◌, ◌≤◌, ◌==◌, Bool, true, if◌then◌else◌, List, [], ◌∷◌, ◌++◌, map, length, codes, Option}
use Rattle.std.specs.Prelude.{Some, None, slice_index_or, All, AllPairs, ◌⊎◌, refl}
use Rattle.std.specs.List.{range_with_len, flat_map}
use Rattle.std.specs.FinSet as set
use Rattle.std.specs.Coded.{Coded, code_by, coded×, coded_ℕ, coded_list}
use Rattle.byteorder.specs.Endian.{big_bytes}
use Rattle.machine_shape.specs.declared.Shape.{Shape}
use Rattle.machine_shape.specs.Vocabulary.{pins_of, tables_of, crosses_of, most_ticks, most_closed}
use Rattle.machine_meaning.specs.Circuit.{Pins}
use Rattle.machine_config.specs.declared.Setting.{Setting}
use Rattle.machine_config.specs.Configuration.{Configuration, IsConfiguration, coded_configuration, is_closed, setting_of}
use Rattle.machine_image.specs.{declared.kind.ImageKind.ImageKind, declared.kind.ImageFault.ImageFault, Faults.counts_of, Faults.InImage}
use Rattle.machine_image.specs.declared.kind.{ImageKind.TheVariants.Limit, ImageFault.TheVariants.At, ImageFault.TheVariants.Memory}

pub record ImageValue : Type 0 where
  pub config : Configuration
  pub inputs : List ℕ
  pub outputs : List ℕ

-- a table with its setting, where it is on
abbrev pub on_at : ℕ → Option Setting → List (ℕ × Setting)
on_at t None = []
on_at t (Some s) = (t, s) ∷ []

-- the switched-on tables with their settings, ascending
abbrev pub tables_on : Configuration → List (ℕ × Setting)
tables_on g = flat_map (λ t. on_at t (setting_of g t)) (range_with_len 0 (tables_of g.shape))

-- the closed crosspoints, ascending
abbrev pub closed_in : Configuration → List ℕ
closed_in g = flat_map (λ x. if is_closed g x then x ∷ [] else []) (range_with_len 0 (crosses_of g.shape))

-- What is set is of the machine. The pins are pins of the machine, each named once over both
-- lists, and no more crosspoints are closed and tables on than an image of this machine may have.
pub record IsImage (i : ImageValue) : Type 0 where
  pub config : IsConfiguration i.config
  pub within : All (λ k. k < pins_of i.config.shape) (i.inputs ++ i.outputs)
  pub apart : AllPairs (λ j k. j ≢ k) (i.inputs ++ i.outputs)
  pub few : set.len i.config.closed ≤ most_closed i.config.shape
  pub few_on : length (tables_on i.config) ≤ most_ticks i.config.shape

-- codes, by which a proof tells these values apart
abbrev pub coded_image : Coded ImageValue
coded_image = code_by (Configuration × (List ℕ × List ℕ)) (coded× coded_configuration (coded× (coded_list coded_ℕ) (coded_list coded_ℕ)))
    (λ i. (i.config, (i.inputs, i.outputs))) (λ p. record { config = p.0; inputs = p.1.0; outputs = p.1.1 }) (λ _. refl)

-- ---- drives and rows

-- the bit that a vector gives to a pin, and 1 to one that is no input
abbrev pub bit_for : List ℕ → List Bool → ℕ → Bool
bit_for [] bits k = true
bit_for (p ∷ ps) [] k = true
bit_for (p ∷ ps) (b ∷ bits) k = if p == k then b else bit_for ps bits k

-- the vector on these input pins, and 1 on all others of so many
abbrev pub drive_on : ℕ → List ℕ → List Bool → Pins
drive_on pins inputs vector = map (bit_for inputs vector) (range_with_len 0 pins)

-- what is read at these output pins
abbrev pub row_at : List ℕ → Pins → List Bool
row_at outputs reading = map (λ k. slice_index_or reading k true) outputs

abbrev pub drive_of : ImageValue → List Bool → Pins
drive_of i vector = drive_on (pins_of i.config.shape) i.inputs vector

abbrev pub image_row : ImageValue → Pins → List Bool
image_row i reading = row_at i.outputs reading

-- ---- the bytes

-- a number in two bytes and in four, the highest first
abbrev pub two : ℕ → List ℕ
two n = big_bytes 2 n

abbrev pub four : ℕ → List ℕ
four n = big_bytes 4 n

-- bit 0 is latched, bit 1 the initial bit
abbrev pub flags_of : Setting → ℕ
flags_of s = (if s.latched then 1 else 0) + (if s.init then 2 else 0)

-- a table's number, flags and cells
abbrev pub table_bytes : ℕ × Setting → List ℕ
table_bytes t = two t.0 ++ (big_bytes 1 (flags_of t.1) ++ big_bytes 8 t.1.cells)

-- the one spelling of an image
unfoldable pub image_bytes : ImageValue → List ℕ
image_bytes i =
    codes "TERAIMG1" ++ (flat_map two (counts_of i.config.shape)
    ++ (two i.config.ticks ++ (two (length i.inputs) ++ (two (length i.outputs) ++ (flat_map two (i.inputs ++ i.outputs)
    ++ (two (length (tables_on i.config)) ++ (flat_map table_bytes (tables_on i.config)
    ++ (four (length (closed_in i.config)) ++ flat_map four (closed_in i.config)))))))))

-- ---- what is wrong with bytes

unfoldable pub IsFirstImageFault : Shape → List ℕ → ℕ → ImageKind → Type 0
IsFirstImageFault m bytes line kind = InImage m bytes line kind

abbrev pub IsImageFault : Shape → List ℕ → ℕ → ImageKind → Type 0
IsImageFault m bytes line kind = ((16777216 < length bytes) × ((line ≡ 0) × (kind ≡ Limit)))
    ⊎ ((length bytes ≤ 16777216) × IsFirstImageFault m bytes line kind)

abbrev pub IsRefusedAs : Shape → List ℕ → ImageFault → Type 0
IsRefusedAs m bytes Memory = Unit {0}
IsRefusedAs m bytes (At line kind) = IsImageFault m bytes line kind
    × ((i : ImageValue) → IsImage i → i.config.shape ≡ m → image_bytes i ≡ bytes → length bytes ≤ 16777216 → ⊥)

-- the bytes are the one spelling of this image, and of no other
pub record Reads (m : Shape) (bytes : List ℕ) (i : ImageValue) : Type 0 where
  pub image : IsImage i
  pub text : image_bytes i ≡ bytes
  pub shape : i.config.shape ≡ m
  pub within : length bytes ≤ 16777216
  pub only : (other : ImageValue) → IsImage other → other.config.shape ≡ m → image_bytes other ≡ bytes → other ≡ i
