-- What stays of how a group stands for its history.
use Rattle.std.proofs.Common.{◌≡◌, ℕ, ◌+◌, ◌-◌, ◌≤◌, true, List, [], ◌∷◌, length, Option, refl, sym, ◌∙◌, ap, subst, arith}
use Rattle.std.specs.Prelude.{IsTrue}
use Rattle.fdp_base.specs.declared.config.DriveConfig.{DriveConfig}
use Rattle.fdp_base.specs.declared.config.Geometry.{Geometry}
use Rattle.fdp_base.specs.declared.entry.Entry.{Entry}
use Rattle.fdp_base.specs.declared.entry.Spot.{Spot}
use Rattle.fdp_base.specs.Placement.{geometry_of}
use Rattle.fdp_relocation.specs.fdp_book.Book.{BookSeen, IsLonger, point_in, state_in, written_in}
use Rattle.fdp_core.specs.Seen.{HasMoments, HoldsHistory}
use Rattle.fdp_core.specs.Sound.{IsSound}
use Rattle.fdp_core.proofs.Pushed.{legal-one}
use Rattle.fdp_flash.specs.declared.cell.Cell.{Cell}
use Rattle.fdp_flash.specs.FlashState.{FlashState}
use Rattle.fdp_loading.proofs.fdp_isolation.Apart as isolation
use Rattle.fdp_loading.specs.fdp_ledger.declared.counts.Counts.{Counts}
use Rattle.fdp_loading.specs.fdp_survival.Books.{KeepsApart}
use Rattle.fdp_loading.specs.fdp_ledger.Ledger.{IsLedger}
use Rattle.fdp_loading.specs.fdp_ledger.Told.{is_media_reply}
use Rattle.fdp_loading.proofs.fdp_ledger.Alike.{ledger-alike}
use Rattle.fdp_relocation.specs.fdp_locations.Stored.{HoldsWritten}
use Rattle.fdp_relocation.specs.fdp_locations.Written.{Written, written_after}
use Rattle.fdp_relocation.specs.fdp_pages.Steps.{ChangesOwners}
use Rattle.fdp_relocation.proofs.Moving.{blank-recounted}
use Rattle.fdp_rules.specs.Step.{Follows}
use Rattle.fdp_relocation.proofs.fdp_book.Longer.{written-one}
use Rattle.fdp_roominess.specs.Run.{KeepsRoom}
use Rattle.fdp_roominess.proofs.Runs.{keeps-alike}
use Rattle.fdp_relocation.specs.fdp_book.declared.log.TheConstants.{MOST_STEP_ENTRIES}

-- a step that has begun: it may add so many entries, one of them that of a move
abbrev pub begun : BookSeen → BookSeen
begun b = record b { spare = b.spare - 1; spent = b.spent + 1; room = MOST_STEP_ENTRIES; may_move = true }

-- the flash as it is, or after calls that read: the same one, with the same cells
pub record IsSameFlash (f n : FlashState) : Type 0 where
  pub geometry : n.geometry ≡ f.geometry
  pub told : n.told ≡ f.told
  pub moment : f.moment ≤ n.moment
  pub cells : IsTrue f.told → n.cells ≡ f.cells

pub same-flash : (f : FlashState) → IsSameFlash f f
same-flash f = record { geometry = refl; told = refl; moment = omega arith; cells = λ _. refl }

-- ---- what is held

-- no page changed, and no unit but for how many of its pages are live
pub held-still : (f n : FlashState) (b d : BookSeen) → IsSameFlash f n → ChangesOwners b.pages d.pages → written_in d ≡ written_in b → HoldsHistory f b → HoldsHistory n d
held-still f n b d same owners written holds tells =
    let told : IsTrue f.told = sym same.told ∙ tells in
    let was = holds told in
    let here : HoldsWritten f.geometry f.cells (written_in b) d.pages.units =
    record { lie = was.lie; whole = was.whole; blank = blank-recounted f.geometry f.cells b.pages.units d.pages.units d.pages.owners owners.units was.blank } in
    subst (λ (g : Geometry). HoldsWritten g n.cells (written_in d) d.pages.units) (sym same.geometry)
    (subst (λ (cs : List Cell). HoldsWritten f.geometry cs (written_in d) d.pages.units) (sym (same.cells told))
    (subst (λ (w : Spot → Option Written). HoldsWritten f.geometry f.cells w d.pages.units) (sym written) here))

-- ---- an entry more that writes no page

pub sound-entry : (handed : Counts) (f n : FlashState) (b d : BookSeen) (e : Entry) (block now : List ℕ) →
    IsSound handed f b block → IsSameFlash f n → IsLonger b d (e ∷ []) → HoldsHistory n d →
    ((IsTrue (is_media_reply e) → HasMoments n) → Follows n.told b.config (point_in b) e) → IsLedger handed d n → KeepsApart n d → KeepsRoom handed.faults n.faults n.told d →
    length now ≡ length block → IsSound handed n d now
sound-entry handed f n b d e block now so same longer stored follows ledger apart room size = record {
  geometry = same.geometry ∙ so.geometry ∙ ap geometry_of (sym longer.config_is);
  legal = legal-one f n b d e longer same.told same.moment so.legal follows;
  stored = stored;
  apart = apart;
  ledger = ledger;
  room = room;
  buffer = size ∙ so.buffer ∙ ap (λ (c : DriveConfig). c.block) (sym longer.config_is);
}

-- and where only owners change
pub sound-told : (handed : Counts) (f n : FlashState) (b d : BookSeen) (e : Entry) (block now : List ℕ) →
    IsSound handed f b block → IsSameFlash f n → IsLonger b d (e ∷ []) → ChangesOwners b.pages d.pages →
    written_after b.config (state_in b) (written_in b) e ≡ written_in b →
    ((IsTrue (is_media_reply e) → HasMoments n) → Follows n.told b.config (point_in b) e) → IsLedger handed d n → KeepsApart n d → KeepsRoom handed.faults n.faults n.told d →
    length now ≡ length block → IsSound handed n d now
sound-told handed f n b d e block now so same longer owners written =
    sound-entry handed f n b d e block now so same longer (held-still f n b d same owners (written-one b d e longer ∙ written) so.stored)

-- a step that has begun has changed nothing yet
pub apart-begun : (f : FlashState) (b : BookSeen) → KeepsApart f b → KeepsApart f (begun b)
apart-begun f b apart tells opened = isolation.alike b (begun b) f.cells refl refl refl refl refl (apart tells opened)

pub room-begun : (handed : Counts) (f : FlashState) (b : BookSeen) → KeepsRoom handed.faults f.faults f.told b → KeepsRoom handed.faults f.faults f.told (begun b)
room-begun handed f b = keeps-alike handed.faults f.faults f.told b (begun b) refl refl refl refl refl

pub sound-begun : (handed : Counts) (f : FlashState) (b : BookSeen) (block : List ℕ) → IsSound handed f b block → IsSound handed f (begun b) block
sound-begun handed f b block so = record { geometry = so.geometry; legal = so.legal; stored = so.stored; apart = apart-begun f b so.apart; ledger = ledger-alike handed b (begun b) f refl refl refl refl refl so.ledger; room = room-begun handed f b so.room; buffer = so.buffer }
