-- The checks of single keys.
use Rattle.std.specs.Prelude.{ℕ, Option, Some, None, Result, Ok, Err}
use Rattle.toml.specs.Data.{Members}
use Rattle.fdp_config.specs.declared.fault.ConfigFault.{ConfigFault}
use Rattle.fdp_config.specs.declared.fault.ConfigFault.TheVariants.{Range}
use Rattle.fdp_config.specs.declared.key.Key.{Key}
use Rattle.fdp_config.specs.declared.key.Shape.{Shape}
use Rattle.fdp_config.specs.declared.key.Shape.TheVariants.{Number, Truth, Configurations, Namespaces}
use Rattle.fdp_config.specs.Document.{value_at}
use Rattle.fdp_config.specs.Ranges.{shape_fault, range_fault}
use Rattle.fdp_config.specs.Reader.Config.{config_in}
use Rattle.fdp_config.specs.Table.{row_of}

-- what the value at a key owes to its row
abbrev pub own_fault : Members → Key → Option ℕ
own_fault doc key = shape_fault (config_in doc) (value_at doc key) (row_of key).shape

-- the value that is told where a key is out of its range
abbrev pub read_fault : Members → Key → Option ℕ
read_fault doc key = range_fault doc (config_in doc) key

-- a value, or the fault that tells of its range
abbrev pub checked : {A : Type 0} → Key → A → Option ℕ → Result A ConfigFault
checked key value None = Ok value
checked key value (Some told) = Err (Range key told)

-- a number stands at the key
abbrev pub ShapeIsNumber : Shape → Type 0
ShapeIsNumber (Number low high) = Unit {0}
ShapeIsNumber Truth = ⊥
ShapeIsNumber Configurations = ⊥
ShapeIsNumber Namespaces = ⊥

-- the row of the key is one of numbers
abbrev pub IsNumber : Key → Type 0
IsNumber key = ShapeIsNumber (row_of key).shape

-- the highest number of a row
abbrev pub highest : Shape → ℕ
highest (Number low high) = high
highest Truth = 0
highest Configurations = 0
highest Namespaces = 0

-- the highest number at the key
abbrev pub high_of : Key → ℕ
high_of key = highest (row_of key).shape
