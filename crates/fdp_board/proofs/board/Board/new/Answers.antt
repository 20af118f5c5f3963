use Rattle.std.proofs.Common.{◌≡◌, ◌+◌, ◌≤◌, List, subst, sym}
use mathlib.Core.List.{IsPrefix}
use Rattle.fdp_base.specs.declared.entry.Entry.{Entry}
use Rattle.fdp_base.specs.declared.recorded.Mark.{Mark}
use Rattle.fdp_base.proofs.Records.{nil-prefix}
use Rattle.fdp_rules.specs.Seats.{marks_of}
use Rattle.fdp_rules.specs.Totals.{erases, media_blocks}
use Rattle.fdp_board.proofs.Charging.{none-charged}
use Rattle.fdp_board.proofs.Items.{sums-least, sums-without}
use Rattle.fdp_board.proofs.board.Board.new.Goals as goal

pub sums_before-before-requires-clause-media : goal.sums_before-before-requires-clause-media
sums_before-before-requires-clause-media g c =
    let b = c.args.group.book in
    subst (λ (es : List Entry). media_blocks es ≤ c.totals.result.media_blocks) (sym c.entries.ensures.entries) (sums-least b.found b.entries c.totals.result c.totals.ensures).0

pub sums_before-before-requires-clause-erases : goal.sums_before-before-requires-clause-erases
sums_before-before-requires-clause-erases g c =
    let b = c.args.group.book in
    subst (λ (es : List Entry). erases es ≤ c.totals.result.erases) (sym c.entries.ensures.entries) (sums-least b.found b.entries c.totals.result c.totals.ensures).1

pub invariant_of-result : goal.invariant_of-result
invariant_of-result g c =
    let b = c.args.group.book in
    let sums = c.sums_before-before in
    let same = c.entries.ensures.entries in
    record {
      opens = c.requires.unserved.opens;
      shown = subst (λ (ms : List Mark). IsPrefix ms (marks_of b.found b.entries)) (sym c.requires.untold) (nil-prefix (marks_of b.found b.entries));
      sums = sums-without b.found b.entries c.totals.result sums.result c.requires.unserved.none c.totals.ensures sums.ensures.hosts
          (subst (λ (es : List Entry). sums.result.media_blocks + media_blocks es ≡ c.totals.result.media_blocks) same sums.ensures.media)
          (subst (λ (es : List Entry). sums.result.erases + erases es ≡ c.totals.result.erases) same sums.ensures.erases);
      safe = c.requires.unserved.safe;
      roomy = c.requires.unserved.roomy;
      later = c.entries.ensures.counted.moment;
      charged = none-charged c.args.group.handed.moment (g.F.Flash.state c.args.group.flash) b.entries c.requires.unserved.none;
      unfailing = c.requires.unserved.unfailing;
      steps = c.requires.unserved.steps;
      emptied = c.requires.unserved.emptied;
    }
