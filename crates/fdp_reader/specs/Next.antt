-- The reader's own words for the entries of a text: the contracts of its private steps cite them.
use Rattle.std.specs.Prelude.{◌≡◌, ℕ, ◌<◌, Bool, true, false, List, ◌∷◌, ◌++◌, length, drop, Option, Ok}
use Rattle.fdp_base.specs.declared.command.Command.{Command}
use Rattle.fdp_base.specs.declared.config.DriveConfig.{DriveConfig}
use Rattle.fdp_base.specs.declared.entry.Entry.{Entry}
use Rattle.fdp_output.specs.HistoryText.{entry_lines}
use Rattle.fdp_prints.specs.Told.{AreTold, IsToldAt, printed}
use Rattle.fdp_prints.specs.Reader.{first_entry}
use Rattle.fdp_reader.specs.declared.next.Next.{Next}
use Rattle.fdp_reader.specs.declared.next.Next.TheVariants as nexts
use Rattle.fdp_reader.specs.Form.{AreLines, IsLine, text_of}
use Rattle.fdp_reader.specs.Framing.{IsGivenBy}

-- a text begins with another, or does not
abbrev pub Begins : List ℕ → List ℕ → Bool → Type 0
Begins text front true = text ≡ front ++ drop (length front) text
Begins text front false = (more : List ℕ) → text ≡ front ++ more → ⊥

-- what was read of a text, with the command that it gives
pub record IsReadOf (c : DriveConfig) (text : List ℕ) (position : ℕ) (entry : Entry) : Type 0 where
  pub given : Option Command
  pub gives : IsGivenBy c.block text given
  pub read : first_entry given c text ≡ Ok (position, entry)

-- a text begins with the lines of an entry that its print tells whole
pub record IsEntry (c : DriveConfig) (text : List ℕ) (position : ℕ) (entry : Entry) (len : ℕ) : Type 0 where
  pub told : IsToldAt c (position, entry)
  pub len_is : len ≡ length (entry_lines c.block position entry)
  pub text_is : text ≡ entry_lines c.block position entry ++ drop len text

-- no print of entries goes on behind these lines of a text: they begin one, and with the next line they begin none; and the text is none
pub record IsEnd (c : DriveConfig) (text : List ℕ) (lines : List (List ℕ)) (rest : List ℕ) : Type 0 where
  pub whole : AreLines lines
  pub text_is : text ≡ text_of lines ++ rest
  pub entries : List (ℕ × Entry)
  pub told : AreTold c entries
  pub more : List ℕ
  pub begins : printed c.block entries ≡ text_of lines ++ more
  pub ends : (line later more : List ℕ) (zs : List (ℕ × Entry)) → IsLine line → rest ≡ line ++ 10 ∷ later → AreTold c zs → printed c.block zs ≡ text_of lines ++ line ++ 10 ∷ more → ⊥
  pub none : (zs : List (ℕ × Entry)) → AreTold c zs → printed c.block zs ≡ text → 0 < length text → ⊥

-- a text stops to be a print behind so many bytes
pub record StopsAt (c : DriveConfig) (text : List ℕ) (len : ℕ) : Type 0 where
  pub lines : List (List ℕ)
  pub rest : List ℕ
  pub is_end : IsEnd c text lines rest
  pub len_is : len ≡ length (text_of lines)

-- what a text begins with
abbrev pub IsNext : DriveConfig → List ℕ → Next → Type 0
IsNext c text (nexts.Entry position entry len) = IsEntry c text position entry len
IsNext c text (nexts.Stop len) = StopsAt c text len

-- a text is the print of these entries, and then another text
pub record AreRead (c : DriveConfig) (text : List ℕ) (entries : List (ℕ × Entry)) (rest : List ℕ) : Type 0 where
  pub told : AreTold c entries
  pub text_is : text ≡ printed c.block entries ++ rest
