use Rattle.std.proofs.Common.{◌≡◌, ◌∙◌, ◌+◌, ℕ, Option, Some, ap, sym}
use Rattle.std.specs.Prelude.{option_map}
use Rattle.fdp_base.specs.declared.command.Write.{Write}
use Rattle.fdp_base.specs.CommandKinds.{write_of}
use Rattle.fdp_book.specs.declared.extent.Extent.{Extent}
use Rattle.fdp_book.specs.declared.flight.Flight.{Flight}
use Rattle.fdp_book.specs.Book.{BookSeen, state_in}
use Rattle.fdp_book.specs.Extent.{extent}
use Rattle.fdp_book.proofs.Outlining.{generation-said}
use Rattle.fdp_snapshot.specs.declared.state.Summary.{Summary}
use Rattle.fdp_book.proofs.book.Book.next_spare.Goals as goal

-- the blocks of a flight are those of its write
extent-of : (o : Option Write) (w : Write) (x : Extent) → Some x ≡ option_map extent o → o ≡ Some w → x ≡ extent w
extent-of o w x is e =
    let both : Some x ≡ Some (extent w) = is ∙ ap (option_map extent) e in
    cc

pub returns : goal.returns
returns c w is =
    let old = c.self.inside in
    let f : Flight = c.args.flight.now in
    let said : (state_in c.args.self.now).generation ≡ old.tables.outline.generation =
    ap (λ (b : BookSeen). (state_in b).generation) (sym c.self.view_is) ∙ generation-said old.config _ old.tables.outline c.self.invariant.held.outline_is in
    let generation : c.summary.result.now.generation ≡ (state_in c.args.self.now).generation = ap (λ (s : Summary). s.generation) c.summary.ensures.summary ∙ sym said in
    let own : f.extent ≡ extent w = extent-of (write_of f.room.command) w f.extent f.extent_is is in
    ap (λ (n : ℕ). record { ruh = f.ruh; rg = f.rg; generation = n; ticket = f.ticket; nsid = f.extent.nsid; index = c.len-index.result; lba = f.extent.slba + c.len-index.result }) generation
    ∙ ap (λ (x : Extent). record { ruh = f.ruh; rg = f.rg; generation = (state_in c.args.self.now).generation; ticket = f.ticket; nsid = x.nsid; index = c.len-index.result; lba = x.slba + c.len-index.result }) own
    ∙ ap (λ (n : ℕ). record { ruh = f.ruh; rg = f.rg; generation = (state_in c.args.self.now).generation; ticket = f.ticket; nsid = w.nsid; index = n; lba = w.slba + n }) c.len-index.ensures.value
