use Rattle.std.proofs.Common.{◌≡◌, ℕ, ◌+◌, false, IsTrue, List, length, Option, Some, refl, sym, ap, subst, ◌∙◌, arith}
use Rattle.std.specs.Prelude.{slice_get}
use Rattle.std.specs.Option.{option_map_or}
use Rattle.fdp_base.specs.Geometry.{all_pages}
use Rattle.fdp_flash.specs.declared.cell.Cell.{Cell}
use Rattle.fdp_flash.specs.declared.cell.Cell.TheVariants.{Blank, Torn, Whole}
use Rattle.fdp_image.specs.Areas.{area_of, is_seal}
use Rattle.fdp_image.proofs.NextRecord.{area_long}
use Rattle.fdp_flash.proofs.OnlyReads.{before_reads, no_read, reads_fewer, reads_joined}
use Rattle.fdp_areas.proofs.Walking.{IsWalked, blank_is_none, first_walked, no_room_for_seal, seal_found, seal_missing, torn_is_none, walked_ends, walked_page, walked_record}
use Rattle.fdp_areas.proofs.search.walk.Goals as goal
use Rattle.fdp_areas.proofs.search.walk.Goals.{in-More, in-Record}

pub loop-number-init : goal.loop-number-init
loop-number-init g c = record { looks = no_read _; faultless = refl; on = refl; pages = λ told. first_walked _ _ (c.requires.first told) }

pub returns-in-Seal-clause-found : goal.returns-in-Seal-clause-found
returns-in-Seal-clause-found g c told =
    let at = ap (slice_get _) (sym c.loop-number.invariant.on) ∙ before_reads _ _ _ (λ (cells : List Cell). slice_get (area_of c.args.geometry.now c.args.area cells) c.loop-number.number ≡ Some (Whole c.look_at.new.spare c.look_at.new.page)) c.loop-number.invariant.looks c.in-Whole.ensures.shown told in
    seal_found _ _ _ _ _ (c.requires.first told) (walked_ends _ _ _ _ _ (c.loop-number.invariant.pages told) at c.in-Seal.ensures.0 c.in-Seal.ensures.1) at c.in-Seal.ensures.2

pub returns-in-Other-clause-found : goal.returns-in-Other-clause-found
returns-in-Other-clause-found g c told =
    let at = ap (slice_get _) (sym c.loop-number.invariant.on) ∙ before_reads _ _ _ (λ (cells : List Cell). slice_get (area_of c.args.geometry.now c.args.area cells) c.loop-number.number ≡ Some (Whole c.look_at.new.spare c.look_at.new.page)) c.loop-number.invariant.looks c.in-Whole.ensures.shown told in
    seal_missing _ _ _ _ (c.requires.first told) (walked_ends _ _ _ _ _ (c.loop-number.invariant.pages told) at c.in-Other.ensures.0 c.in-Other.ensures.1)
    (ap (λ (o : Option Cell). option_map_or (is_seal c.args.stamp (c.loop-number.checkpoint + c.loop-number.before)) o false) at ∙ c.in-Other.ensures.2)

pub returns-in-Blank-clause-found : goal.returns-in-Blank-clause-found
returns-in-Blank-clause-found g c told =
    blank_is_none _ _ _ _ (c.requires.first told) (c.loop-number.invariant.pages told)
    (ap (slice_get _) (sym c.loop-number.invariant.on) ∙ before_reads _ _ _ (λ (cells : List Cell). slice_get (area_of c.args.geometry.now c.args.area cells) c.loop-number.number ≡ Some Blank) c.loop-number.invariant.looks c.in-Blank.ensures.shown told)

pub returns-in-Torn-clause-found : goal.returns-in-Torn-clause-found
returns-in-Torn-clause-found g c told =
    torn_is_none _ _ _ _ (c.requires.first told) (c.loop-number.invariant.pages told)
    (ap (slice_get _) (sym c.loop-number.invariant.on) ∙ before_reads _ _ _ (λ (cells : List Cell). slice_get (area_of c.args.geometry.now c.args.area cells) c.loop-number.number ≡ Some Torn) c.loop-number.invariant.looks c.in-Torn.ensures.shown told)

pub loop-number-preserved : goal.loop-number-preserved
loop-number-preserved g c =
    let cells = area_of c.args.geometry.now c.args.area (g.F.Flash.state c.args.flash.now).cells in
    let at : IsTrue (g.F.Flash.state c.args.flash.now).told → slice_get cells (c.loop-number.checkpoint + c.loop-number.before) ≡ Some (Whole c.look_at.new.spare c.look_at.new.page) =
    λ told.
    ap (slice_get cells) (sym c.loop-number.invariant.on)
    ∙ before_reads _ _ _ (λ (cells : List Cell). slice_get (area_of c.args.geometry.now c.args.area cells) c.loop-number.number ≡ Some (Whole c.look_at.new.spare c.look_at.new.page)) c.loop-number.invariant.looks c.in-Whole.ensures.shown told in
    record {
      looks = reads_fewer _ _ _ _ (omega arith) (reads_joined _ _ _ _ _ c.loop-number.invariant.looks c.in-Whole.ensures.looks);
      faultless = c.in-Whole.ensures.ends ∙ c.loop-number.invariant.faultless;
      on = elim c.match-step.branch [
        | in-More w ↦ omega (arith, c.loop-number.invariant.on, w.checkpoint-is, w.before-is)
        | in-Record w ↦ omega (arith, c.loop-number.invariant.on, w.checkpoint-is, w.before-is)
      ];
      pages = λ told. elim c.match-step.branch [
        | in-More w ↦ (
            let next = walked_page c.args.stamp cells c.loop-number.checkpoint c.loop-number.before _ _ (c.loop-number.invariant.pages told) (at told) w.in-More.ensures.0 w.in-More.ensures.1 in
            subst (λ (n : ℕ). IsWalked c.args.stamp cells n c.match-step.before) (sym w.checkpoint-is) (subst (IsWalked c.args.stamp cells (c.loop-number.checkpoint + 1)) (sym w.before-is) next)
            )
        | in-Record w ↦ (
            let next = walked_record c.args.stamp cells c.loop-number.checkpoint c.loop-number.before _ _ (c.loop-number.invariant.pages told) (at told) w.in-Record.ensures.0 w.in-Record.ensures.1 in
            subst (λ (n : ℕ). IsWalked c.args.stamp cells n c.match-step.before) (sym w.checkpoint-is) (subst (IsWalked c.args.stamp cells c.loop-number.checkpoint) (sym w.before-is) next)
            )
      ];
    }

pub returns-clause-found : goal.returns-clause-found
returns-clause-found g c told =
    let size : length (g.F.Flash.state c.args.flash.now).cells ≡ all_pages c.args.geometry.now = (g.met.F.Flash.well_formed c.args.flash.now).size told ∙ ap all_pages (sym c.requires.geometry) in
    let long = area_long c.args.geometry.now c.args.area (g.F.Flash.state c.args.flash.now).cells c.requires.area size in
    no_room_for_seal _ _ _ _ (c.requires.first told) (c.loop-number.invariant.pages told) (omega (arith, long, c.loop-number.invariant.on, c.loop-number-test.false, c.area_pages-number-end.ensures))
