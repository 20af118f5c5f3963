-- A state in which one part changed.
use Rattle.std.proofs.Common.{◌≡◌, ℕ, ◌+◌, ◌≤◌, Bool, List, length, Option, Some, refl, arith}
use Rattle.std.specs.Prelude.{IsFalse}
use Rattle.fdp_base.specs.declared.config.DriveConfig.{DriveConfig}
use Rattle.fdp_base.specs.declared.event.EventKind.{EventKind}
use Rattle.fdp_rules.specs.PlainState.{Block, Going, PlainState}
use Rattle.fdp_history.specs.OrderlyState.{IsOrderlyBlock, IsOrderlyGoing, IsOrderlyState}
use Rattle.fdp_history.proofs.Changed.{unit-kept, with-parts}

-- the position after one entry more
abbrev pub later : PlainState → PlainState
later s = record s { position = s.position + 1 }

pub orderly-later : (c : DriveConfig) (s : PlainState) → IsOrderlyState c s → IsOrderlyState c (later s)
orderly-later c s h = with-parts c s (record s { position = s.position + 1 }) (omega arith) refl refl refl refl (record { writes = h.writes; tickets = h.tickets; blocks = h.blocks; references = h.references; kept = unit-kept c s h; units = h.units; media = omega (arith, h.media) }) h

pub going-changed : (c : DriveConfig) (s : PlainState) (going : ℕ → Option Going) → ((queue : ℕ) (g : Going) → going queue ≡ Some g → IsOrderlyGoing c s queue g) → ((a b : ℕ) (g h : Going) → going a ≡ Some g → going b ≡ Some h → g.ticket ≡ h.ticket → a ≡ b) → IsOrderlyState c s → IsOrderlyState c (record s { going = going })
going-changed c s going writes tickets h = with-parts c s (record s { going = going }) (omega arith) refl refl refl refl (record { writes = writes; tickets = tickets; blocks = h.blocks; references = h.references; kept = unit-kept c s h; units = h.units; media = h.media }) h

-- no write goes but those that were going
pub going-fewer : (c : DriveConfig) (s : PlainState) (going : ℕ → Option Going) → ((queue : ℕ) (g : Going) → going queue ≡ Some g → s.going queue ≡ Some g) → IsOrderlyState c s → IsOrderlyState c (record s { going = going })
going-fewer c s going fewer h = going-changed c s going (λ queue g e. h.writes queue g (fewer queue g e)) (λ a b g k e f same. h.tickets a b g k (fewer a g e) (fewer b k f) same) h

pub blocks-changed : (c : DriveConfig) (s : PlainState) (blocks : ℕ → ℕ → Option Block) → ((nsid lba : ℕ) (b : Block) → blocks nsid lba ≡ Some b → IsOrderlyBlock c s nsid lba b) → IsOrderlyState c s → IsOrderlyState c (record s { blocks = blocks })
blocks-changed c s blocks each h = with-parts c s (record s { blocks = blocks }) (omega arith) refl refl refl refl (record { writes = h.writes; tickets = h.tickets; blocks = each; references = h.references; kept = unit-kept c s h; units = h.units; media = h.media }) h

pub lost-changed : (c : DriveConfig) (s : PlainState) (is_lost : ℕ → Bool) → ((rg ruh unit : ℕ) → (s.references rg ruh).unit ≡ Some unit → IsFalse (is_lost unit)) → IsOrderlyState c s → IsOrderlyState c (record s { is_lost = is_lost })
lost-changed c s is_lost kept h = with-parts c s (record s { is_lost = is_lost }) (omega arith) refl refl refl refl (record { writes = h.writes; tickets = h.tickets; blocks = h.blocks; references = h.references; kept = kept; units = h.units; media = h.media }) h

pub worn-changed : (c : DriveConfig) (s : PlainState) (is_worn : ℕ → Bool) → IsOrderlyState c s → IsOrderlyState c (record s { is_worn = is_worn })
worn-changed c s is_worn h = with-parts c s (record s { is_worn = is_worn }) (omega arith) refl refl refl refl (record { writes = h.writes; tickets = h.tickets; blocks = h.blocks; references = h.references; kept = unit-kept c s h; units = h.units; media = h.media }) h

pub reports-changed : (c : DriveConfig) (s : PlainState) (reports : ℕ → EventKind → Bool) → IsOrderlyState c s → IsOrderlyState c (record s { reports = reports })
reports-changed c s reports h = with-parts c s (record s { reports = reports }) (omega arith) refl refl refl refl (record { writes = h.writes; tickets = h.tickets; blocks = h.blocks; references = h.references; kept = unit-kept c s h; units = h.units; media = h.media }) h

pub media-changed : (c : DriveConfig) (s : PlainState) (media : List ℕ) → length media ≤ s.position → IsOrderlyState c s → IsOrderlyState c (record s { media = media })
media-changed c s media bound h = with-parts c s (record s { media = media }) (omega arith) refl refl refl refl (record { writes = h.writes; tickets = h.tickets; blocks = h.blocks; references = h.references; kept = unit-kept c s h; units = h.units; media = bound }) h
