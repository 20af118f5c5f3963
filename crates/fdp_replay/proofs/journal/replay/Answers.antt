use Rattle.std.proofs.Common.{◌≡◌, ℕ, ◌+◌, ◌-◌, true, false, IsTrue, List, length, Some, Err, refl, sym, ap, subst, ◌∙◌, arith, rules}
use Rattle.std.specs.Prelude.{slice_get}
use Rattle.fdp_base.specs.declared.config.DriveConfig.{DriveConfig}
use Rattle.fdp_base.specs.declared.config.Geometry.{Geometry}
use Rattle.fdp_base.specs.Geometry.{all_pages}
use Rattle.fdp_areas.specs.Seals.{LiesIn}
use Rattle.fdp_flash.specs.declared.cell.Cell.{Cell}
use Rattle.fdp_flash.specs.declared.cell.Cell.TheVariants.{Blank, Torn, Whole}
use Rattle.fdp_image.specs.Areas.{area_of}
use Rattle.fdp_flash.proofs.OnlyReads.{before_reads, no_read, reads_joined}
use Rattle.fdp_replay.specs.Records.{IsTaken, IsUnfit}
use Rattle.fdp_replay.specs.Replay.{IsReplayed}
use Rattle.fdp_replay.proofs.Journals.{journal_ends, journal_ends_blank, journal_ends_torn, journal_fills, journal_next, journal_page, no_journal_page, place_of, replayed_more, replayed_none, replayed_whole, sealed_journal}
use Rattle.fdp_replay.proofs.journal.replay.Goals as goal

pub loop-number-init : goal.loop-number-init
loop-number-init g c = record { looks = no_read _; faultless = refl; config = refl; pages = λ told. omega arith; read = λ told. replayed_none _ _ _ _ }

pub returns-then-not-is_page-clause-told : goal.returns-then-not-is_page-clause-told
returns-then-not-is_page-clause-told g c told area current =
    let x = c.args.current.now in
    let i = c.loop-number.number in
    let geometry = c.geometry-geometry.result in
    let at = ap (slice_get (area_of geometry x.area (g.F.Flash.state c.args.flash.now).cells)) (sym c.record_page.ensures.place) ∙ before_reads _ _ _ (λ (cells : List Cell). slice_get (area_of geometry x.area cells) c.record_page.result ≡ Some (Whole c.look_at.new.spare c.look_at.new.page)) c.loop-number.invariant.looks c.in-Whole.ensures.shown told in
    let other : c.is_page.result ≡ false = search rules in
    let ends = journal_ends geometry _ x i _ (c.loop-number.invariant.pages told) at (no_journal_page x.seal.stamp i c.look_at.new.spare c.look_at.new.page (sym c.is_page.ensures ∙ other)) in
    replayed_whole _ _ _ area _ _ _ (sealed_journal _ _ _ x area c.geometry-geometry.ensures.value (c.requires.current told) current) ends (c.loop-number.invariant.read told)

pub returns-in-Err-Bad-clause-told : goal.returns-in-Err-Bad-clause-told
returns-in-Err-Bad-clause-told g c told area current =
    let x = c.args.current.now in
    let i = c.loop-number.number in
    let geometry = c.geometry-geometry.result in
    let at = ap (slice_get (area_of geometry x.area (g.F.Flash.state c.args.flash.now).cells)) (sym c.record_page.ensures.place) ∙ before_reads _ _ _ (λ (cells : List Cell). slice_get (area_of geometry x.area cells) c.record_page.result ≡ Some (Whole c.look_at.new.spare c.look_at.new.page)) c.loop-number.invariant.looks c.in-Whole.ensures.shown told in
    let same : c.is_page.result ≡ true = search rules in
    let next = journal_next geometry _ x i _ c.look_at.new.page (c.loop-number.invariant.pages told) at (journal_page x.seal.stamp i c.look_at.new.spare c.look_at.new.page (sym c.is_page.ensures ∙ same)) in
    let journal = sealed_journal _ _ _ x area c.geometry-geometry.ensures.value (c.requires.current told) current in (
      record {
        bytes = c.look_at.new.page;
        page = ap (λ (pages : List (List ℕ)). slice_get pages i) journal ∙ next.1;
        none = c.in-Err-Bad.ensures.bad (ap Err c.in-Err-Bad.field-0-is);
      },
      subst (λ (pages : List (List ℕ)). IsReplayed g.R.Replayed.fits (g.R.Replayed.config c.args.state.now) pages i (g.R.Replayed.reading c.args.state.now) (g.R.Replayed.reading c.take_record.new.state)) (sym journal)
          (rw c.in-Err-Bad.ensures.refused (c.loop-number.invariant.read told)),
    )

pub returns-in-Err-Unfit-clause-told : goal.returns-in-Err-Unfit-clause-told
returns-in-Err-Unfit-clause-told g c told area current =
    let x = c.args.current.now in
    let i = c.loop-number.number in
    let geometry = c.geometry-geometry.result in
    let at = ap (slice_get (area_of geometry x.area (g.F.Flash.state c.args.flash.now).cells)) (sym c.record_page.ensures.place) ∙ before_reads _ _ _ (λ (cells : List Cell). slice_get (area_of geometry x.area cells) c.record_page.result ≡ Some (Whole c.look_at.new.spare c.look_at.new.page)) c.loop-number.invariant.looks c.in-Whole.ensures.shown told in
    let same : c.is_page.result ≡ true = search rules in
    let next = journal_next geometry _ x i _ c.look_at.new.page (c.loop-number.invariant.pages told) at (journal_page x.seal.stamp i c.look_at.new.spare c.look_at.new.page (sym c.is_page.ensures ∙ same)) in
    let journal = sealed_journal _ _ _ x area c.geometry-geometry.ensures.value (c.requires.current told) current in (
      record {
        bytes = c.look_at.new.page;
        page = ap (λ (pages : List (List ℕ)). slice_get pages i) journal ∙ next.1;
        unfit = subst (λ (k : DriveConfig). IsUnfit g.R.Replayed.fits k c.look_at.new.page (g.R.Replayed.reading c.take_record.new.state)) c.loop-number.invariant.config
            (rw c.in-Err-Unfit.ensures.refused (c.in-Err-Unfit.ensures.unfit (ap Err c.in-Err-Unfit.field-0-is)));
      },
      subst (λ (pages : List (List ℕ)). IsReplayed g.R.Replayed.fits (g.R.Replayed.config c.args.state.now) pages i (g.R.Replayed.reading c.args.state.now) (g.R.Replayed.reading c.take_record.new.state)) (sym journal)
          (rw c.in-Err-Unfit.ensures.refused (c.loop-number.invariant.read told)),
    )

pub returns-in-Blank-clause-told : goal.returns-in-Blank-clause-told
returns-in-Blank-clause-told g c told area current =
    let x = c.args.current.now in
    let i = c.loop-number.number in
    let geometry = c.geometry-geometry.result in
    let at = ap (slice_get (area_of geometry x.area (g.F.Flash.state c.args.flash.now).cells)) (sym c.record_page.ensures.place) ∙ before_reads _ _ _ (λ (cells : List Cell). slice_get (area_of geometry x.area cells) c.record_page.result ≡ Some Blank) c.loop-number.invariant.looks c.in-Blank.ensures.shown told in
    replayed_whole _ _ _ area _ _ _ (sealed_journal _ _ _ x area c.geometry-geometry.ensures.value (c.requires.current told) current) (journal_ends_blank geometry _ x i (c.loop-number.invariant.pages told) at) (c.loop-number.invariant.read told)

pub returns-in-Torn-clause-told : goal.returns-in-Torn-clause-told
returns-in-Torn-clause-told g c told area current =
    let x = c.args.current.now in
    let i = c.loop-number.number in
    let geometry = c.geometry-geometry.result in
    let at = ap (slice_get (area_of geometry x.area (g.F.Flash.state c.args.flash.now).cells)) (sym c.record_page.ensures.place) ∙ before_reads _ _ _ (λ (cells : List Cell). slice_get (area_of geometry x.area cells) c.record_page.result ≡ Some Torn) c.loop-number.invariant.looks c.in-Torn.ensures.shown told in
    replayed_whole _ _ _ area _ _ _ (sealed_journal _ _ _ x area c.geometry-geometry.ensures.value (c.requires.current told) current) (journal_ends_torn geometry _ x i (c.loop-number.invariant.pages told) at) (c.loop-number.invariant.read told)

pub loop-number-preserved : goal.loop-number-preserved
loop-number-preserved g c =
    let x = c.args.current.now in
    let i = c.loop-number.number in
    let geometry = c.geometry-geometry.result in
    let same : c.is_page.result ≡ true = search rules in
    let at : IsTrue (g.F.Flash.state c.args.flash.now).told → slice_get (area_of geometry x.area (g.F.Flash.state c.args.flash.now).cells) (place_of x i) ≡ Some (Whole c.look_at.new.spare c.look_at.new.page) =
    λ told. ap (slice_get (area_of geometry x.area (g.F.Flash.state c.args.flash.now).cells)) (sym c.record_page.ensures.place) ∙ before_reads _ _ _ (λ (cells : List Cell). slice_get (area_of geometry x.area cells) c.record_page.result ≡ Some (Whole c.look_at.new.spare c.look_at.new.page)) c.loop-number.invariant.looks c.in-Whole.ensures.shown told in
    let page = journal_page x.seal.stamp i c.look_at.new.spare c.look_at.new.page (sym c.is_page.ensures ∙ same) in
    record {
      looks = reads_joined _ _ _ _ _ c.loop-number.invariant.looks c.in-Whole.ensures.looks;
      faultless = c.in-Whole.ensures.ends ∙ c.loop-number.invariant.faultless;
      config = c.in-Ok.ensures.config ∙ c.loop-number.invariant.config;
      pages = λ told. (journal_next geometry _ x i _ c.look_at.new.page (c.loop-number.invariant.pages told) (at told) page).0;
      read = λ told.
          replayed_more _ _ _ i c.look_at.new.page _ _ _ (journal_next geometry _ x i _ c.look_at.new.page (c.loop-number.invariant.pages told) (at told) page).1 (c.loop-number.invariant.read told)
          (subst (λ (k : DriveConfig). IsTaken g.R.Replayed.fits k c.look_at.new.page (g.R.Replayed.reading c.loop-number.state) (g.R.Replayed.reading c.take_record.new.state)) c.loop-number.invariant.config c.in-Ok.ensures.taken);
    }

pub returns-clause-told : goal.returns-clause-told
returns-clause-told g c told area current =
    let x = c.args.current.now in
    let i = c.loop-number.number in
    let geometry = c.geometry-geometry.result in
    let s = g.F.Flash.state c.args.flash.now in
    let size : length s.cells ≡ all_pages geometry = (g.met.F.Flash.well_formed c.args.flash.now).size told ∙ ap all_pages (sym c.geometry-geometry.ensures.value) in
    let fills = journal_fills geometry s.cells x i size (subst (λ (y : Geometry). LiesIn y x) (sym c.geometry-geometry.ensures.value) c.requires.inside) (c.loop-number.invariant.pages told) (omega (arith, c.loop-number-test.false, c.area_pages.ensures)) in
    let end : i ≡ c.area_pages.result - (1 + x.seal.checkpoint) = omega (arith, c.loop-number-test.false, c.loop-number.auto.number-end) in
    let whole = replayed_whole _ _ _ area _ _ _ (sealed_journal _ _ _ x area c.geometry-geometry.ensures.value (c.requires.current told) current) fills (c.loop-number.invariant.read told) in
    (sym end ∙ whole.0, subst (λ (n : ℕ). IsReplayed g.R.Replayed.fits (g.R.Replayed.config c.args.state.now) area.journal n (g.R.Replayed.reading c.args.state.now) (g.R.Replayed.reading c.loop-number.state)) end whole.1)
