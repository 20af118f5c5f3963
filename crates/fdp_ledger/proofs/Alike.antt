-- A book with the same history and the same pages.
use Rattle.std.proofs.Common.{◌≡◌, ℕ, List, sym, ◌∙◌, ap, subst}
use Rattle.std.specs.Prelude.{Contains}
use Rattle.fdp_base.specs.declared.config.DriveConfig.{DriveConfig}
use Rattle.fdp_base.specs.declared.entry.Entry.{Entry}
use Rattle.fdp_book.specs.Book.{BookSeen, state_in}
use Rattle.fdp_flash.specs.declared.cell.Cell.{Cell}
use Rattle.fdp_flash.specs.FlashState.{FlashState}
use Rattle.fdp_book.specs.fdp_pages.PageTables.{PageTables}
use Rattle.fdp_rules.specs.History.{Found, point_of}
use Rattle.fdp_units.specs.UnitTable.{IsGroup}
use Rattle.fdp_ledger.specs.declared.counts.Counts.{Counts}
use Rattle.fdp_ledger.specs.Counted.{CountedSince}
use Rattle.fdp_ledger.specs.Start.{start_of}
use Rattle.fdp_ledger.specs.Uses.{RunStart}
use Rattle.fdp_ledger.specs.Ledger.{AreAccounted, HasFreeUnits, IsLedger}

-- a run that began in the same way
same-start : (b d : BookSeen) → d.config ≡ b.config → d.found ≡ b.found → d.opened ≡ b.opened → start_of d ≡ start_of b
same-start b d config found opened =
    ap (λ (c : DriveConfig). start_of (record d { config = c })) config
    ∙ ap (λ (f : Found). start_of (record d { config = b.config; found = f })) found
    ∙ ap (λ (cells : List Cell). start_of (record d { config = b.config; found = b.found; opened = cells })) opened

pub ledger-alike : (handed : Counts) (b d : BookSeen) (now : FlashState) → d.config ≡ b.config → d.found ≡ b.found → d.opened ≡ b.opened → d.entries ≡ b.entries → d.pages ≡ b.pages → IsLedger handed b now → IsLedger handed d now
ledger-alike handed b d now config found opened entries pages was =
    let same = same-start b d config found opened in
    record {
      handed_is = was.handed_is;
      counted = subst (λ (start : RunStart). CountedSince handed now start d.entries) (sym same) (subst (CountedSince handed now (start_of b)) (sym entries) was.counted);
      listed = was.listed;
      units = subst (λ (start : RunStart). AreAccounted handed start d.pages.units d.entries now) (sym same)
          (subst (λ (t : PageTables). AreAccounted handed (start_of b) t.units d.entries now) (sym pages) (subst (λ (es : List Entry). AreAccounted handed (start_of b) b.pages.units es now) (sym entries) was.units));
      free = λ fresh well. subst (λ (t : PageTables). (rg : ℕ) → IsGroup t.units rg → HasFreeUnits t rg) (sym pages) (was.free (ap (λ (start : RunStart). start.fresh) (sym same) ∙ fresh) well);
      moments = λ moment among. was.moments moment (subst (λ (xs : List ℕ). Contains xs moment) media among);
    } where
      media : (state_in d).media ≡ (state_in b).media
      media =
          ap (λ (c : DriveConfig). (point_of c d.found d.entries).state.media) config
          ∙ ap (λ (f : Found). (point_of b.config f d.entries).state.media) found
          ∙ ap (λ (es : List Entry). (point_of b.config b.found es).state.media) entries
