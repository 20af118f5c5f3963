-- How the bytes of a piece stand on its line: the contracts of private steps cite it.
use Rattle.std.specs.Prelude.{ℕ, List}
use Rattle.fdp_prints.specs.Reader.{block_in, bytes_in}
use Rattle.fdp_reader.specs.declared.data.Form.{Form}
use Rattle.fdp_reader.specs.declared.data.Form.TheVariants as forms

-- what is read of the digits of a line
abbrev pub form_of : Form → ℕ → List ℕ → List ℕ
form_of forms.Block = block_in
form_of forms.Bytes = bytes_in
