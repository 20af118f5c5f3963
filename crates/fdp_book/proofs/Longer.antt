-- What stands, and what pages hold, once a book has further entries.
use Rattle.std.proofs.Common.{◌≡◌, ◌∙◌, List, [], ◌∷◌, ◌++◌, Option, ap, append_assoc, refl, sym}
use mathlib.Core.List.{append-nil}
use Rattle.fdp_base.specs.declared.config.DriveConfig.{DriveConfig}
use Rattle.fdp_base.specs.declared.entry.Entry.{Entry}
use Rattle.fdp_base.specs.declared.entry.Spot.{Spot}
use Rattle.fdp_book.specs.Book.{BookSeen, IsLonger, first_in, point_in, state_in, written_in}
use Rattle.fdp_flash.specs.declared.cell.Cell.{Cell}
use Rattle.fdp_readings.specs.fdp_locations.Held.{pages_held}
use Rattle.fdp_readings.specs.fdp_locations.Written.{Written, written_after, written_by}
use Rattle.fdp_readings.proofs.fdp_locations.Histories.{written_by-push}
use Rattle.fdp_rules.proofs.Pushes.{point_of-push}
use Rattle.fdp_rules.specs.History.{Found, point_of, state_of}
use Rattle.fdp_rules.specs.Next.{next}
use Rattle.fdp_rules.specs.Point.{Point}

-- ---- what stands

pub point-as : (old new : BookSeen) (es : List Entry) → IsLonger old new es → point_in new ≡ point_of old.config old.found (old.entries ++ es)
point-as old new es h =
    ap (λ (c : DriveConfig). point_of c new.found new.entries) h.config_is
    ∙ ap (λ (f : Found). point_of old.config f new.entries) h.found_is
    ∙ ap (point_of old.config old.found) h.entries_are

pub point-none : (old new : BookSeen) → IsLonger old new [] → point_in new ≡ point_in old
point-none old new h = point-as old new [] h ∙ ap (point_of old.config old.found) (append-nil old.entries)

pub point-one : (old new : BookSeen) (e : Entry) → IsLonger old new (e ∷ []) → point_in new ≡ next old.config (point_in old) e
point-one old new e h = point-as old new (e ∷ []) h ∙ point_of-push old.config old.found old.entries e

pub point-two : (old new : BookSeen) (a b : Entry) → IsLonger old new (a ∷ b ∷ []) → point_in new ≡ next old.config (next old.config (point_in old) a) b
point-two old new a b h =
    point-as old new (a ∷ b ∷ []) h
    ∙ ap (point_of old.config old.found) (sym (append_assoc old.entries (a ∷ []) (b ∷ [])))
    ∙ point_of-push old.config old.found (old.entries ++ a ∷ []) b
    ∙ ap (λ (p : Point). next old.config p b) (point_of-push old.config old.found old.entries a)

pub state-as : (old new : BookSeen) (es : List Entry) → IsLonger old new es → state_in new ≡ state_of old.config old.found (old.entries ++ es)
unfolding point_of
state-as old new es h = ap (λ (p : Point). p.state) (point-as old new es h)

pub state-self : (b : BookSeen) → state_in b ≡ state_of b.config b.found b.entries
unfolding point_of
state-self b = refl

-- ---- what pages hold

-- when the history began
pub first-as : (old new : BookSeen) (es : List Entry) → IsLonger old new es → first_in new ≡ first_in old
first-as old new es h = ap (λ (c : DriveConfig). pages_held c new.opened) h.config_is ∙ ap (λ (cells : List Cell). pages_held old.config cells) h.opened_is

written-as : (old new : BookSeen) (es : List Entry) → IsLonger old new es → written_in new ≡ written_by old.config old.found (first_in old) (old.entries ++ es)
written-as old new es h =
    ap (λ (c : DriveConfig). written_by c new.found (first_in new) new.entries) h.config_is
    ∙ ap (λ (f : Found). written_by old.config f (first_in new) new.entries) h.found_is
    ∙ ap (λ (first : Spot → Option Written). written_by old.config old.found first new.entries) (first-as old new es h)
    ∙ ap (written_by old.config old.found (first_in old)) h.entries_are

pub written-one : (old new : BookSeen) (e : Entry) → IsLonger old new (e ∷ []) → written_in new ≡ written_after old.config (state_in old) (written_in old) e
written-one old new e h = written-as old new (e ∷ []) h ∙ written_by-push old.config old.found (first_in old) old.entries e

pub written-two : (old new : BookSeen) (a b : Entry) → IsLonger old new (a ∷ b ∷ []) → written_in new ≡ written_after old.config (next old.config (point_in old) a).state (written_after old.config (state_in old) (written_in old) a) b
written-two old new a b h =
    written-as old new (a ∷ b ∷ []) h
    ∙ ap (written_by old.config old.found (first_in old)) (sym (append_assoc old.entries (a ∷ []) (b ∷ [])))
    ∙ written_by-push old.config old.found (first_in old) (old.entries ++ a ∷ []) b
    ∙ ap (λ (p : Point). written_after old.config p.state (written_by old.config old.found (first_in old) (old.entries ++ a ∷ [])) b) (point_of-push old.config old.found old.entries a)
    ∙ ap (λ (w : Spot → Option Written). written_after old.config (next old.config (point_in old) a).state w b) (written_by-push old.config old.found (first_in old) old.entries a)
