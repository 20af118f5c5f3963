-- Calls in the units behind those of data.
use Rattle.std.proofs.Common.{◌≡◌, ℕ, ◌+◌, ◌*◌, ◌<◌, ◌≤◌, Bool, true, false, ◌&&◌, ◌||◌, List, [], ◌∷◌, refl, sym, ◌∙◌, ap, subst, arith, ne_eqb}
use Rattle.std.specs.Prelude.{All, IsTrue, not, slice_get}
use Rattle.std.specs.List.{list_any}
use Rattle.std.proofs.lemmas.List.{append-nil}
use Rattle.std.proofs.lemmas.List.Elements.{All-head, All-tail}
use Rattle.std.proofs.lemmas.Nat.{row_fits}
use Rattle.fdp_base.specs.declared.config.Geometry.{Geometry}
use Rattle.fdp_base.specs.declared.entry.Entry.{Entry}
use Rattle.fdp_base.specs.Geometry.{data_units}
use Rattle.fdp_base.specs.Placement.{geometry_of}
use Rattle.fdp_book.specs.Book.{BookSeen, IsLonger, state_in}
use Rattle.fdp_flash.specs.declared.cell.Cell.{Cell}
use Rattle.fdp_flash.specs.Cells.{IsBlankUnit}
use Rattle.fdp_flash.specs.FlashState.{Call, FlashState}
use Rattle.fdp_flash.specs.Layout.{first_page}
use Rattle.fdp_image.specs.Areas.{data_pages}
use Rattle.fdp_image.specs.Saving.{SameDataPages}
use Rattle.fdp_book.specs.fdp_locations.Located.{AreUnitsOf}
use Rattle.fdp_units.specs.UnitTable.{Cut, IsUnit}
use Rattle.fdp_ledger.specs.declared.counts.Counts.{Counts}
use Rattle.fdp_ledger.specs.Emptied.{OnlyErasesEmpty}
use Rattle.fdp_ledger.specs.Start.{start_of}
use Rattle.fdp_ledger.specs.Ledger.{IsLedger}
use Rattle.fdp_ledger.specs.WornOut.{erases, is_erase_call}
use Rattle.fdp_ledger.specs.Told.{is_media_reply}
use Rattle.fdp_base.specs.EntryKinds.{is_shut, loses_unit}
use Rattle.fdp_ledger.proofs.Accounted.{accounted-kept}
use Rattle.fdp_ledger.proofs.Called.{IsAfter}
use Rattle.fdp_ledger.proofs.Entries.{quiet-none}
use Rattle.fdp_ledger.proofs.Ledgers.{bound-none, ledger-of, more-programs, no-rose, same-programs, still-worn}
use Rattle.fdp_ledger.proofs.Worn.{still-worn-out}
use Rattle.fdp_ledger.proofs.Moments.{passed-later}
use Rattle.fdp_ledger.proofs.Units.{same-keep}

-- each of these calls lies behind the units of data
abbrev pub AreBehindData : Geometry → List Call → Type 0
AreBehindData g calls = All (λ (call : Call). data_units g ≤ call.at.unit) calls

-- they erase no unit of data
behind-erase : (units unit : ℕ) (calls : List Call) → All (λ (call : Call). units ≤ call.at.unit) calls → unit < units → list_any (erases unit) calls ≡ false
behind-erase units unit [] behind low = refl
behind-erase units unit (call ∷ calls) behind low =
    ap (λ (b : Bool). is_erase_call call.operation && b && not call.failed || list_any (erases unit) calls) (ne_eqb call.at.unit unit (λ same. absurd (omega (arith, same, All-head (λ (x : Call). units ≤ x.at.unit) call calls behind, low))))
    ∙ ap (λ (b : Bool). b || list_any (erases unit) calls) (none (is_erase_call call.operation) (not call.failed))
    ∙ behind-erase units unit calls (All-tail (λ (x : Call). units ≤ x.at.unit) call calls behind) low where
      none : (b c : Bool) → (b && false && c) ≡ false
      none true c = refl
      none false c = refl

-- a unit of data that is all blank was so
pub same-blank : (g : Geometry) (old new : List Cell) (unit : ℕ) → ((page : ℕ) → page < data_pages g → slice_get new page ≡ slice_get old page) → unit < data_units g → IsBlankUnit g new unit → IsBlankUnit g old unit
same-blank g old new unit same low h = record {
  blank = λ page within.
      let fits : first_page g unit + g.unit_pages ≤ data_units g * g.unit_pages = row_fits unit g.unit_pages (data_units g) g.unit_pages low (omega arith) in
      sym (same (first_page g unit + page) (omega (arith, fits, within))) ∙ h.blank page within;
}

-- a book with no entry more
longer-none : (b : BookSeen) → IsLonger b b []
longer-none b = record { config_is = refl; found_is = refl; opened_is = refl; entries_are = sym (append-nil b.entries); spare_is = refl; spent_is = refl; room_is = omega arith }

module _ (b : BookSeen) (old now : FlashState) (calls : List Call) (geometry : old.geometry ≡ geometry_of b.config) (behind : AreBehindData old.geometry calls) (programs : now.programs ≡ old.programs) (same : IsTrue old.told → SameDataPages b.config old.cells now.cells) where
  own-same : IsTrue old.told → (page : ℕ) → page < data_pages old.geometry → slice_get now.cells page ≡ slice_get old.cells page
  own-same told = subst (λ (g : Geometry). (page : ℕ) → page < data_pages g → slice_get now.cells page ≡ slice_get old.cells page) (sym geometry) (same told)

  -- the ledger stands
  pub ledger-system : (handed : Counts) → AreUnitsOf b.config (state_in b) b.pages → IsAfter old now calls → IsLedger handed b old → IsLedger handed b now
  ledger-system handed units after was =
      ledger-of handed b b old now calls [] (longer-none b) after (record {
        programs = more-programs handed.programs old.programs now.programs b.entries [] was.counted.programs (same-programs old.programs now.programs [] programs refl);
        media_replies = bound-none handed was.handed_is is_media_reply b.entries [] old.faults now.faults after.faults was.counted.media_replies refl;
        shut = bound-none handed was.handed_is is_shut b.entries [] old.faults now.faults after.faults was.counted.shut refl;
        lost = bound-none handed was.handed_is loses_unit b.entries [] old.faults now.faults after.faults was.counted.lost refl;
        worn = λ fresh. still-worn handed.faults old.faults now.faults b.entries [] after.faults refl (was.counted.worn fresh);
        worn_out = still-worn-out handed (start_of b) old now calls after was.listed b.entries [] refl was.counted.worn_out;
        units = accounted-kept handed (start_of b) b.pages.units b.pages.units b.entries old now calls was.handed_is was.listed after was.units [] (same-keep b.pages.units b.pages.units refl refl) (quiet-none (start_of b) b.entries)
            (λ unit there. behind-erase (data_units old.geometry) unit calls behind (low unit there))
            (λ told unit there kept blank. same-blank old.geometry old.cells now.cells unit (own-same told) (low unit there) (subst (λ (g : Geometry). IsBlankUnit g now.cells unit) after.geometry blank));
        free = λ fresh well rg is. was.free fresh (no-rose handed.faults old.faults now.faults after.faults well) rg is;
        moments = passed-later (state_in b).media (state_in b).media old.moment now.moment refl after.moment was.moments;
      }) was where
        low : (unit : ℕ) → IsUnit b.pages.units unit → unit < data_units old.geometry
        low unit there = subst (λ (g : Geometry). unit < data_units g) (sym geometry) (subst (λ (k : Cut). unit < k.groups * k.group_units) units.cut there)

  -- no unit of data was emptied
  pub emptied-system : (es : List Entry) → IsTrue old.told → OnlyErasesEmpty old.geometry old.cells now.cells es
  emptied-system es told = record { was = λ unit within blank none. same-blank old.geometry old.cells now.cells unit (own-same told) within blank }
