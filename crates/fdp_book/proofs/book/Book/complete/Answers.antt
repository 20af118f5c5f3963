use Rattle.std.proofs.Common.{◌≡◌, ap, sym, subst, ◌∙◌, List}
use Rattle.fdp_base.specs.declared.entry.Entry.{Entry}
use Rattle.fdp_rules.specs.Step.{IsQueue}
use Rattle.fdp_book.specs.Book.{BookSeen}
use Rattle.fdp_book.specs.Held.{IsHeld}
use Rattle.fdp_book.proofs.Ending.{held-completed}
use Rattle.fdp_book.proofs.Forgetting.{may-forget}
use Rattle.fdp_book.specs.declared.tables.Tables.{Tables}
use Rattle.fdp_book.specs.Outlined.{Counts}
use Rattle.fdp_book.specs.Saving.{AreSmall}
use Rattle.fdp_snapshot.specs.declared.state.Summary.{Summary}
use Rattle.fdp_book.proofs.Numbers.{ends-outline, generation-counted, numbers-logged, small-totals}
use Rattle.fdp_book.proofs.book.Book.complete.Goals as goal
use Rattle.fdp_readings.specs.fdp_locations.Held.{pages_held}

pub end_in-requires : goal.end_in-requires
end_in-requires c =
    let old = c.self.inside in
    may-forget old.config old.origin.found (pages_held old.config old.origin.cells) old.log.entries old.tables c.args.queue c.self.invariant.held (subst (λ (b : BookSeen). IsQueue b.config c.args.queue) (sym c.self.view_is) c.requires.queue)

pub count-requires-clause-small : goal.count-requires-clause-small
count-requires-clause-small c =
    let old = c.self.inside in
    subst (λ (s : Summary). AreSmall s.totals) (sym (ends-outline old.tables c.end_in.new.tables c.args.queue c.args.command c.end_in.ensures.ends)) (small-totals old.config old.origin old.log old.tables c.position.result c.self.invariant c.position.ensures.position c.position.ensures.small c.position.ensures.few)

pub invariant_of-self : goal.invariant_of-self
invariant_of-self c =
    let old = c.self.inside in
    let queue_is : IsQueue old.config c.args.queue = subst (λ (y : BookSeen). IsQueue y.config c.args.queue) (sym c.self.view_is) c.requires.queue in
    let mid : Tables = c.end_in.new.tables in
    let now : Tables = record mid { outline = c.count.new.outline } in
    let same : mid.outline ≡ old.tables.outline = ends-outline old.tables mid c.args.queue c.args.command c.end_in.ensures.ends in
    record {
      held = subst (λ (es : List Entry). IsHeld old.config old.origin.found (pages_held old.config old.origin.cells) es now) (sym c.push_host.ensures.log.entries_are)
          (held-completed old.config old.origin.found (pages_held old.config old.origin.cells) old.log.entries old.tables mid c.count.new.outline c.args.queue c.args.number c.args.command c.args.replies.history c.args.moment
          c.self.invariant.held queue_is c.requires.unapplied c.end_in.ensures.ends (subst (λ (s : Summary). Counts 0 0 s c.count.new.outline) same c.count.ensures));
      before_is = c.push_host.ensures.log.before_is ∙ c.self.invariant.before_is;
      names_are = c.push_host.ensures.log.names_are ∙ c.self.invariant.names_are;
      numbers = numbers-logged old.tables.outline.generation now.outline.generation old.log c.push_host.new.log _ (generation-counted 0 0 mid.outline now.outline c.count.ensures ∙ ap (λ (s : Summary). s.generation) same) c.push_host.ensures.log c.self.invariant.numbers;
    }
