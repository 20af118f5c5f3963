-- A run that began with room, after a step: where no call failed, where one did, and where a group was worn.
use Rattle.std.proofs.Common.{◌≡◌, ℕ, ◌<◌, ◌≤◌, Bool, true, false, ◌||◌, List, refl, sym, ◌∙◌, ap, subst, arith, inl, inr, ⊎_elim}
use Rattle.std.specs.List.{list_any}
use Rattle.std.proofs.lemmas.Bool.{cases_lt}
use Rattle.std.proofs.lemmas.List.Folds.{list_any-append}
use Rattle.fdp_base.specs.declared.config.DriveConfig.{DriveConfig}
use Rattle.fdp_base.specs.declared.entry.Entry.{Entry}
use Rattle.fdp_base.specs.Counts.{Rose, counted}
use Rattle.fdp_base.specs.EntryKinds.{wears_group}
use Rattle.fdp_book.specs.Book.{BookSeen, IsLonger}
use Rattle.fdp_flash.specs.declared.cell.Cell.{Cell}
use Rattle.fdp_rules.specs.History.{Found}
use Rattle.fdp_roominess.specs.Room.{HaveRoom}
use Rattle.fdp_roominess.specs.Run.{BeganRoomy, IsRoomyImage, KeepsRoom}

-- a run whose history has no entry that wears a group has room as long as no call fails, if it began so
pub keeps-begun : (faults : ℕ) (told : Bool) (b : BookSeen) → list_any wears_group b.entries ≡ false → (BeganRoomy told b → HaveRoom b.pages) → KeepsRoom faults faults told b
keeps-begun faults told b none room = record { since = omega arith; room = λ began well. room began; worn = λ began wears. absurd (no (sym wears ∙ none)) } where
  no : true ≡ false → ⊥
  no e = cc

-- a run goes on as it began
pub began-before : (told now : Bool) (b new : BookSeen) (xs : List Entry) → now ≡ told → IsLonger b new xs → BeganRoomy now new → BeganRoomy told b
began-before told now b new xs same longer = ⊎_elim
    (λ (fresh : new.found.is_image ≡ false). inl (ap (λ (f : Found). f.is_image) (sym longer.found_is) ∙ fresh))
    (λ roomy. inr (sym same ∙ roomy.0, subst (λ (c : DriveConfig). IsRoomyImage c b.opened) longer.config_is (subst (λ (cells : List Cell). IsRoomyImage new.config cells) longer.opened_is roomy.1)))

module _ (handed a z : ℕ) (told now : Bool) (b new : BookSeen) (xs : List Entry) (longer : IsLonger b new xs) (same : now ≡ told) (up : a ≤ z) (was : KeepsRoom handed a told b) where
  since-now : handed ≤ z
  since-now = let low = was.since in omega (arith, low, up)

  -- no group is worn by a step
  pub keeps-well : list_any wears_group xs ≡ false → (HaveRoom b.pages → HaveRoom new.pages) → KeepsRoom handed z now new
  keeps-well none room = record {
    since = since-now;
    room = λ began well. room (was.room (began-before told now b new xs same longer began) (λ rose. well (omega (arith, rose, up))));
    worn = λ began wears.
        let rose : Rose handed a = was.worn (began-before told now b new xs same longer began) (first (list_any wears_group b.entries) (list_any wears_group xs) none (sym (ap (list_any wears_group) longer.entries_are ∙ list_any-append wears_group b.entries xs) ∙ wears)) in
        omega (arith, rose, up);
  } where
    first : (x y : Bool) → y ≡ false → (x || y) ≡ true → x ≡ true
    first true y e h = refl
    first false y e h = sym e ∙ h

  -- a call failed in a step
  pub keeps-failed : Rose a z → KeepsRoom handed z now new
  keeps-failed rose =
      let since : Rose handed z = let low = was.since in omega (arith, low, rose) in
      record { since = since-now; room = λ began well. absurd (well since); worn = λ began wears. since }

  -- a group is worn by a step, for want of a free unit
  pub keeps-starved : (HaveRoom b.pages → ⊥) → KeepsRoom handed z now new
  keeps-starved starved = record { since = since-now; room = λ began well. absurd (well (since began)); worn = λ began wears. since began } where
    since : BeganRoomy now new → Rose handed z
    since began = ⊎_elim
        (λ (early : z < counted handed). absurd (starved (was.room (began-before told now b new xs same longer began) (λ rose. omega (arith, early, rose, up)))))
        (λ (late : counted handed ≤ z). late)
        (cases_lt z (counted handed))

-- another book with the same history and pages
pub keeps-alike : (handed now : ℕ) (told : Bool) (b d : BookSeen) → d.config ≡ b.config → d.found ≡ b.found → d.opened ≡ b.opened → d.entries ≡ b.entries → d.pages ≡ b.pages → KeepsRoom handed now told b → KeepsRoom handed now told d
keeps-alike handed now told b d config found opened entries pages was = record {
  since = was.since;
  room = λ began well. subst HaveRoom (sym pages) (was.room (before began) well);
  worn = λ began wears. was.worn (before began) (ap (list_any wears_group) (sym entries) ∙ wears);
} where
  before : BeganRoomy told d → BeganRoomy told b
  before = ⊎_elim
      (λ (fresh : d.found.is_image ≡ false). inl (ap (λ (f : Found). f.is_image) (sym found) ∙ fresh))
      (λ roomy. inr (roomy.0, subst (λ (c : DriveConfig). IsRoomyImage c b.opened) config (subst (λ (cells : List Cell). IsRoomyImage d.config cells) opened roomy.1)))

-- the flash made calls since
pub keeps-called : (handed old new : ℕ) (told now : Bool) (b : BookSeen) → now ≡ told → old ≤ new → KeepsRoom handed old told b → KeepsRoom handed new now b
keeps-called handed old new told now b same up was = record {
  since = let low = was.since in omega (arith, low, up);
  room = λ began well. was.room (subst (λ (x : Bool). BeganRoomy x b) same began) (λ rose. well (omega (arith, rose, up)));
  worn = λ began wears. let rose : Rose handed old = was.worn (subst (λ (x : Bool). BeganRoomy x b) same began) wears in omega (arith, rose, up);
}

-- a run that began with room did so as it goes on
pub began-later : (told now : Bool) (b new : BookSeen) (xs : List Entry) → now ≡ told → IsLonger b new xs → BeganRoomy told b → BeganRoomy now new
began-later told now b new xs same longer = ⊎_elim
    (λ (fresh : b.found.is_image ≡ false). inl (ap (λ (f : Found). f.is_image) longer.found_is ∙ fresh))
    (λ roomy. inr (same ∙ roomy.0, subst (λ (c : DriveConfig). IsRoomyImage c new.opened) (sym longer.config_is) (subst (λ (cells : List Cell). IsRoomyImage b.config cells) (sym longer.opened_is) roomy.1)))
