use Rattle.std.proofs.Common.{◌∙◌, ap, arith, get_or, length, map, subst, sym}
use Rattle.std.proofs.lemmas.List.{length-map}
use Rattle.std.proofs.lemmas.Option.{slice_get-get_or}
use Rattle.fdp_base.specs.Placement.{geometry_of}
use Rattle.fdp_base.specs.declared.config.DriveConfig.{DriveConfig}
use Rattle.fdp_book.specs.Book.{BookSeen, point_in}
use Rattle.fdp_flash.specs.Layout.{page_number}
use Rattle.fdp_readings.specs.Changes.{AreItsPages}
use Rattle.fdp_rules.specs.Step.{IsPage}
use Rattle.fdp_book.proofs.book.Book.list_numbers.Goals as goal

pub put_numbers-requires-clause-pages : goal.put_numbers-requires-clause-pages
put_numbers-requires-clause-pages c k d low =
    let r = c.requires.ready in
    let spots = c.pages_of_write-pages.result.now in
    let its : AreItsPages (point_in c.args.self.now) r.going spots = c.pages_of_write-pages.ensures r.going r.ticket_is (c.requires.may r.going r.ticket_is).there in
    subst (λ (x : DriveConfig). IsPage x (get_or spots k d)) (sym (ap (λ (b : BookSeen). b.config) c.self.view_is))
    (c.known.ensures.orderly.sites r.going.ticket k (get_or spots k d) (its.sites k (get_or spots k d) (slice_get-get_or spots k d low))).page

pub put_numbers-requires-clause-few : goal.put_numbers-requires-clause-few
put_numbers-requires-clause-few c =
    let r = c.requires.ready in
    let its : AreItsPages (point_in c.args.self.now) r.going c.pages_of_write-pages.result.now = c.pages_of_write-pages.ensures r.going r.ticket_is (c.requires.may r.going r.ticket_is).there in
    let count = (c.known.ensures.orderly.state.writes c.args.ticket.now.queue r.going r.ticket_is.going_is).count in
    omega (arith, its.size, count.1, c.known.ensures.config.ranges.blocks_per_command.1)

pub returns-clause-numbers : goal.returns-clause-numbers
returns-clause-numbers c g tk = record {
  spots = c.pages_of_write-pages.result.now;
  pages = c.pages_of_write-pages.ensures g tk (c.requires.may g tk).there;
  numbers_are = c.put_numbers.ensures ∙ ap (λ (b : BookSeen). map (page_number (geometry_of b.config)) c.pages_of_write-pages.result.now) c.self.view_is;
}

pub returns-clause-few : goal.returns-clause-few
returns-clause-few c =
    let r = c.requires.ready in
    let spots = c.pages_of_write-pages.result.now in
    let its : AreItsPages (point_in c.args.self.now) r.going spots = c.pages_of_write-pages.ensures r.going r.ticket_is (c.requires.may r.going r.ticket_is).there in
    let count = (c.known.ensures.orderly.state.writes c.args.ticket.now.queue r.going r.ticket_is.going_is).count in
    let all = ap length c.put_numbers.ensures ∙ length-map spots (page_number (geometry_of c.self.inside.config)) in
    (omega (arith, all, its.size, count.0), omega (arith, all, its.size, count.1, c.known.ensures.config.ranges.blocks_per_command.1))
