use Rattle.std.proofs.Common.{◌≡◌, ◌∙◌, ℕ, List, None, ap, length, subst, sym}
use Rattle.std.proofs.lemmas.List.{length-replicate}
use Rattle.fdp_base.specs.declared.command.Command.{Command}
use Rattle.fdp_book.specs.Answering.{IsAnswer, filled}
use Rattle.fdp_book.specs.Book.{point_in, state_in}
use Rattle.fdp_book.specs.Room.{RoomSeen, bytes_of_dwords, most_bytes}
use Rattle.fdp_book.proofs.Answering.{kept-buffer, status-answer}
use Rattle.fdp_rules.specs.LogPages.{handle_status}
use Rattle.fdp_rules.specs.Refusal.{refusal_of}
use Rattle.fdp_book.proofs.book.Book.answer.Goals as goal

pub returns-in-Status : goal.returns-in-Status
returns-in-Status c =
    let b = c.args.self.now in
    let s = c.in-Status.status in
    let room : most_bytes c.args.room.command c.args.room.block c.args.room.most ≡ bytes_of_dwords s.dwords =
    ap (λ (r : RoomSeen). most_bytes r.command r.block r.most) c.requires.room ∙ ap (λ (k : Command). most_bytes k b.config.block b.config.blocks_per_command) c.in-Status.is in
    let size : length c.deref_mut.result.now ≡ bytes_of_dwords s.dwords =
    ap (λ (xs : List ℕ). length xs) (c.deref_mut.ensures.value ∙ c.into_buffers-history.ensures.history) ∙ length-replicate _ 0 ∙ room in
    subst (λ (k : Command). IsAnswer b k c.of_read.result) (sym c.in-Status.is)
    (status-answer b s c.of_read.result _ (subst (λ (k : Command). refusal_of b.config (point_in b) k ≡ None) c.in-Status.is c.requires.command.accepted) c.of_read.ensures
    (kept-buffer c.write_status.new.into c.into_buffers-history.result.0.items _ (ap (λ (xs : List ℕ). length xs) (sym c.deref_mut.ensures.value) ∙ c.deref_mut.ensures.len) (c.write_status.ensures.size ∙ ap (λ (xs : List ℕ). length xs) c.deref_mut.ensures.value)
    ∙ c.write_status.ensures.bytes ∙ ap (λ (n : ℕ). filled n (handle_status b.config (state_in b) s.nsid)) size))
