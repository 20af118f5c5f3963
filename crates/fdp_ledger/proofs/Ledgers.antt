-- A ledger after a step, from what stands of its parts.
use Rattle.std.proofs.Common.{◌≡◌, ℕ, ◌+◌, ◌*◌, ◌^◌, ◌<◌, ◌≤◌, Bool, true, false, cond, not, ◌||◌, List, ◌++◌, length, length-append, refl, sym, ◌∙◌, ap, subst, arith}
use Rattle.std.specs.Prelude.{IsTrue, count_by}
use Rattle.std.specs.List.{list_any}
use Rattle.std.proofs.lemmas.List.Folds.{list_any-append}
use Rattle.std.proofs.lemmas.List.Sums.{sum_by-append}
use Rattle.fdp_base.specs.declared.config.DriveConfig.{DriveConfig}
use Rattle.fdp_base.specs.declared.entry.Entry.{Entry}
use Rattle.fdp_base.specs.Counts.{Rose}
use Rattle.fdp_base.specs.Numbers.{count_below}
use Rattle.fdp_base.specs.Placement.{geometry_of}
use Rattle.fdp_base.specs.EntryKinds.{is_shut, loses_unit, wears_group}
use Rattle.fdp_book.specs.Book.{BookSeen, IsLonger, state_in}
use Rattle.fdp_calls.specs.Calls.{counted_more}
use Rattle.fdp_calls.proofs.Made.{counted_more-add, counted_more-none}
use Rattle.fdp_flash.specs.declared.cell.Cell.{Cell}
use Rattle.fdp_flash.specs.Cells.{IsBlankUnit}
use Rattle.fdp_flash.specs.FlashState.{Call, FlashState}
use Rattle.fdp_book.specs.fdp_pages.PageTables.{PageTables, passes_at}
use Rattle.fdp_passes.specs.Place.{has_taken}
use Rattle.fdp_rules.specs.History.{Found}
use Rattle.fdp_rules.specs.Totals.{media_blocks, media_blocks_of}
use Rattle.fdp_units.specs.UnitTable.{IsGroup, UnitTable, cut_of}
use Rattle.fdp_ledger.specs.declared.counts.Counts.{Counts}
use Rattle.fdp_ledger.specs.Counted.{CountedSince}
use Rattle.fdp_ledger.specs.Ledger.{AreAccounted, HasFreeUnits, IsLedger, is_vain}
use Rattle.fdp_ledger.specs.Told.{is_media_reply}
use Rattle.fdp_ledger.specs.Start.{KnowsUnits, start_of}
use Rattle.fdp_ledger.specs.Uses.{RunStart, idle_erases}
use Rattle.fdp_ledger.specs.WornOut.{WereWornOut}
use Rattle.fdp_image.specs.Roomy.{is_blank_unit}
use Rattle.fdp_ledger.proofs.Accounted.{accounted-kept}
use Rattle.fdp_ledger.proofs.Called.{ErasesNone, IsAfter}
use Rattle.fdp_ledger.proofs.Counting.{one-more_bound, still-bound}
use Rattle.fdp_ledger.proofs.Emptied.{same-emptied}
use Rattle.fdp_ledger.proofs.Entries.{SaysNothing, count-push}
use Rattle.fdp_ledger.proofs.Free.{free-kept}
use Rattle.fdp_ledger.proofs.Moments.{HavePassed}
use Rattle.fdp_ledger.proofs.Units.{KeepsUnits}
use Rattle.fdp_ledger.proofs.Worn.{still-worn-out}

-- ---- what was counted

-- so many faults as entries of a kind, after entries more
module _ (handed : Counts) (small : handed.faults < 2 ^ 64) (p : Entry → Bool) (es xs : List Entry) (a b : ℕ) (up : a ≤ b) (bound : counted_more handed.faults (count_by p es) ≤ a) where
  -- of which none is of this kind
  pub bound-none : count_by p xs ≡ 0 → counted_more handed.faults (count_by p (es ++ xs)) ≤ b
  bound-none none = still-bound handed.faults (count_by p es) _ a b small (omega (arith, count-push p es xs, none)) up bound

  -- of which one is, where a fault was counted
  pub bound-one : count_by p xs ≤ 1 → Rose a b → counted_more handed.faults (count_by p (es ++ xs)) ≤ b
  bound-one few rose = one-more_bound handed.faults (count_by p es) _ a b small (omega (arith, count-push p es xs, few)) up rose bound

-- as many programs as pages
pub more-programs : (h a b : ℕ) (es xs : List Entry) → a ≡ counted_more h (media_blocks es) → b ≡ counted_more a (media_blocks xs) → b ≡ counted_more h (media_blocks (es ++ xs))
more-programs h a b es xs was more =
    more ∙ ap (λ (n : ℕ). counted_more n (media_blocks xs)) was ∙ counted_more-add h (media_blocks es) (media_blocks xs) ∙ ap (counted_more h) (sym (sum_by-append media_blocks_of es xs))

pub same-programs : (a b : ℕ) (xs : List Entry) → b ≡ a → media_blocks xs ≡ 0 → b ≡ counted_more a (media_blocks xs)
same-programs a b xs same none = same ∙ sym (counted_more-none a) ∙ ap (counted_more a) (sym none)

pub still-worn : (h a b : ℕ) (es xs : List Entry) → a ≤ b → list_any wears_group xs ≡ false → (IsTrue (list_any wears_group es) → Rose h a) → IsTrue (list_any wears_group (es ++ xs)) → Rose h b
still-worn h a b es xs up none was wears =
    let rose : Rose h a = was (first (list_any wears_group es) (list_any wears_group xs) none (sym (list_any-append wears_group es xs) ∙ wears)) in
    omega (arith, rose, up) where
      first : (x y : Bool) → y ≡ false → (x || y) ≡ true → x ≡ true
      first true y e h = refl
      first false y e h = sym e ∙ h

-- each idle erase has a fault of its own
pub idle-bound : (handed : Counts) (start : RunStart) (t : UnitTable) (es : List Entry) (now : FlashState) → handed.faults < 2 ^ 64 → AreAccounted handed start t es now → KnowsUnits now.told start → counted_more handed.faults (idle_erases start es) ≤ now.faults
idle-bound handed start t es now small units knows =
    still-bound handed.faults (idle_erases start es + count_below (length t.groups * t.group_units) (is_vain start t es)) (idle_erases start es) now.faults now.faults small (omega arith) (omega arith) (units.vain knows)

-- ---- the parts together

-- what a step leaves of the parts of a ledger, with these entries more
pub record HasParts (handed : Counts) (b new : BookSeen) (now : FlashState) (xs : List Entry) : Type 0 where
  pub programs : now.programs ≡ counted_more handed.programs (media_blocks (b.entries ++ xs))
  pub media_replies : counted_more handed.faults (count_by is_media_reply (b.entries ++ xs)) ≤ now.faults
  pub shut : counted_more handed.faults (count_by is_shut (b.entries ++ xs)) ≤ now.faults
  pub lost : counted_more handed.faults (count_by loses_unit (b.entries ++ xs)) ≤ now.faults
  pub worn : IsTrue (start_of b).fresh → IsTrue (list_any wears_group (b.entries ++ xs)) → Rose handed.faults now.faults
  pub worn_out : KnowsUnits now.told (start_of b) → WereWornOut handed now (start_of b) (b.entries ++ xs)
  pub units : AreAccounted handed (start_of b) new.pages.units (b.entries ++ xs) now
  pub free : IsTrue (start_of b).fresh → (Rose handed.faults now.faults → ⊥) → (rg : ℕ) → IsGroup new.pages.units rg → HasFreeUnits new.pages rg
  pub moments : HavePassed (state_in new).media now.moment

-- a run goes on as it began
pub same-start : (b new : BookSeen) (xs : List Entry) → IsLonger b new xs → start_of new ≡ start_of b
same-start b new xs longer =
    ap (λ (c : DriveConfig). begun c new.found new.opened) longer.config_is
    ∙ ap (λ (f : Found). begun b.config f new.opened) longer.found_is
    ∙ ap (begun b.config b.found) longer.opened_is where
      begun : DriveConfig → Found → List Cell → RunStart
      begun c f cells = record { fresh = not f.is_image; had = λ unit. not (is_blank_unit (geometry_of c) cells unit) }

pub ledger-of : (handed : Counts) (b new : BookSeen) (old now : FlashState) (calls : List Call) (xs : List Entry) → IsLonger b new xs → IsAfter old now calls → HasParts handed b new now xs → IsLedger handed b old → IsLedger handed new now
ledger-of handed b new old now calls xs longer after parts was = record {
  handed_is = was.handed_is;
  counted = subst (λ (start : RunStart). CountedSince handed now start new.entries) (sym (same-start b new xs longer)) (subst (CountedSince handed now (start_of b)) (sym longer.entries_are) (record {
    moment = let early = was.counted.moment in omega (arith, early, after.moment);
    programs = parts.programs;
    media_replies = parts.media_replies;
    shut = parts.shut;
    lost = parts.lost;
    idle = λ knows. idle-bound handed (start_of b) new.pages.units (b.entries ++ xs) now was.handed_is parts.units knows;
    worn = parts.worn;
    worn_out = parts.worn_out;
  }));
  listed = λ tells. let low = was.listed (after.tells tells) in omega (arith, low, ap length (after.listed tells), length-append old.calls calls);
  units = subst (λ (start : RunStart). AreAccounted handed start new.pages.units new.entries now) (sym (same-start b new xs longer))
      (subst (λ (es : List Entry). AreAccounted handed (start_of b) new.pages.units es now) (sym longer.entries_are) parts.units);
  free = λ fresh. parts.free (ap (λ (start : RunStart). start.fresh) (sym (same-start b new xs longer)) ∙ fresh);
  moments = parts.moments;
}

-- no fault since the flash was handed in is none before
pub no-rose : (h a b : ℕ) → a ≤ b → (Rose h b → ⊥) → Rose h a → ⊥
no-rose h a b up none rose = none (omega (arith, rose, up))

-- ---- a step that leaves the units as they are

-- entries that tell of no page, no erase, no handle that was shut, no unit that was lost and no group that was worn
pub record AreStill (start : RunStart) (es xs : List Entry) : Type 0 where
  pub pages : media_blocks xs ≡ 0
  pub shut : count_by is_shut xs ≡ 0
  pub lost : count_by loses_unit xs ≡ 0
  pub worn : list_any wears_group xs ≡ false
  pub says : SaysNothing start es xs

-- the same units are free, and the same passes took one
pub record KeepsFree (old new : PageTables) : Type 0 where
  pub units : KeepsUnits old.units new.units
  pub taken : (rg : ℕ) → IsGroup old.units rg → has_taken (passes_at new rg) ≡ has_taken (passes_at old rg)

pub group-was : (t now : UnitTable) (rg : ℕ) → cut_of now ≡ cut_of t → IsGroup now rg → IsGroup t rg
group-was t now rg cut is = omega (arith, is, ap (λ k. k.groups) cut)

pub still-ledger : (handed : Counts) (b new : BookSeen) (old now : FlashState) (calls : List Call) (xs : List Entry) → IsLonger b new xs → IsAfter old now calls → ErasesNone calls → now.programs ≡ old.programs → (IsTrue old.told → now.cells ≡ old.cells) → AreStill (start_of b) b.entries xs → KeepsFree b.pages new.pages
    → counted_more handed.faults (count_by is_media_reply (b.entries ++ xs)) ≤ now.faults → HavePassed (state_in new).media now.moment → IsLedger handed b old → IsLedger handed new now
still-ledger handed b new old now calls xs longer after none programs cells still keeps media moments was =
    ledger-of handed b new old now calls xs longer after (record {
      programs = more-programs handed.programs old.programs now.programs b.entries xs was.counted.programs (same-programs old.programs now.programs xs programs still.pages);
      media_replies = media;
      shut = bound-none handed was.handed_is is_shut b.entries xs old.faults now.faults after.faults was.counted.shut still.shut;
      lost = bound-none handed was.handed_is loses_unit b.entries xs old.faults now.faults after.faults was.counted.lost still.lost;
      worn = λ fresh. still-worn handed.faults old.faults now.faults b.entries xs after.faults still.worn (was.counted.worn fresh);
      worn_out = still-worn-out handed (start_of b) old now calls after was.listed b.entries xs still.worn was.counted.worn_out;
      units = accounted-kept handed (start_of b) b.pages.units new.pages.units b.entries old now calls was.handed_is was.listed after was.units xs keeps.units still.says (λ unit there. none unit)
          (λ told unit there kept blank. same-emptied old.geometry old.cells now.cells (cells told) unit (subst (λ g. IsBlankUnit g now.cells unit) after.geometry blank));
      free = λ fresh well rg is.
          let there = group-was b.pages.units new.pages.units rg keeps.units.cut is in
          free-kept b.pages new.pages rg keeps.units.cut (λ unit group. keeps.units.free unit) (keeps.taken rg there) (was.free fresh (no-rose handed.faults old.faults now.faults after.faults well) rg there);
      moments = moments;
    }) was

-- ---- faults since the flash was handed in

-- the flash had counted no more when it was handed in
pub handed-low : (handed : Counts) (b : BookSeen) (now : FlashState) → IsLedger handed b now → handed.faults ≤ now.faults
handed-low handed b now was =
    let low = still-bound handed.faults (count_by is_shut b.entries) 0 now.faults now.faults was.handed_is (omega arith) (omega arith) was.counted.shut in
    omega (arith, low, counted_more-none handed.faults)

-- a fault now is one since then
pub rose-since : (h a b : ℕ) → h ≤ a → Rose a b → Rose h b
rose-since h a b low rose = omega (arith, low, rose)

pub one-most : (b : Bool) → cond {A = ℕ} b 1 0 ≤ 1
one-most true = omega arith
one-most false = omega arith
