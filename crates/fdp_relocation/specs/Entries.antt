-- Entries of relocation in a group, and what they leave of a state.
use Rattle.std.specs.Prelude.{◌≡◌, ℕ, All, List}
use Rattle.fdp_base.specs.declared.config.DriveConfig.{DriveConfig}
use Rattle.fdp_base.specs.declared.entry.Entry.{Entry}
use Rattle.fdp_base.specs.declared.entry.Entry.TheVariants as entries
use Rattle.fdp_rules.specs.PlainState.{PlainState}
use Rattle.fdp_rules.specs.Sites.{group_of}

-- an entry of relocation in a group
abbrev pub IsRelocationIn : DriveConfig → ℕ → Entry → Type 0
IsRelocationIn c rg (entries.Host h) = ⊥
IsRelocationIn c rg (entries.Started s) = ⊥
IsRelocationIn c rg (entries.Placed p) = ⊥
IsRelocationIn c rg (entries.Copied x) = (group_of c x.from.unit ≡ rg) × (group_of c x.to.unit ≡ rg)
IsRelocationIn c rg (entries.Moved m) = m.rg ≡ rg
IsRelocationIn c rg (entries.Erased e) = group_of c e.unit ≡ rg
IsRelocationIn c rg (entries.Retired r) = group_of c r.unit ≡ rg
IsRelocationIn c rg (entries.Aside a) = group_of c a.unit ≡ rg
IsRelocationIn c rg (entries.Shut s) = ⊥
IsRelocationIn c rg (entries.Worn w) = w.rg ≡ rg
IsRelocationIn c rg entries.Reopened = ⊥

-- entries of relocation in a group
abbrev pub AreRelocationIn : DriveConfig → ℕ → List Entry → Type 0
AreRelocationIn c rg es = All (IsRelocationIn c rg) es

-- a state keeps all but its position, and which units are lost and which groups are worn
pub record KeepsState (s n : PlainState) : Type 0 where
  pub enabled : n.enabled ≡ s.enabled
  pub index : n.index ≡ s.index
  pub generation : n.generation ≡ s.generation
  pub reports : n.reports ≡ s.reports
  pub namespaces : n.namespaces ≡ s.namespaces
  pub blocks : n.blocks ≡ s.blocks
  pub references : n.references ≡ s.references
  pub going : n.going ≡ s.going
  pub media : n.media ≡ s.media
