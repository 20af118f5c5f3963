use Rattle.std.proofs.Common.{◌≡◌, ℕ, ◌*◌, List, length, ◌∙◌, ap, sym, subst}
use Rattle.std.proofs.lemmas.List.{length-replicate}
use Rattle.fdp_base.specs.declared.config.DriveConfig.{DriveConfig}
use Rattle.fdp_relocation.specs.fdp_book.Book.{point_in}
use Rattle.fdp_relocation.specs.fdp_book.Room.{IsTwice, read_reply}
use Rattle.fdp_relocation.proofs.fdp_book.Answering.{kept-buffer}
use Rattle.fdp_core.specs.Seen.{Seen}
use Rattle.fdp_log_pages.specs.Told.{Tells}
use Rattle.fdp_pieces.proofs.Putting.{part_length}
use Rattle.fdp_rules.specs.LogPages.{log_page, transfer_of, zeros}
use Rattle.fdp_core.proofs.Logs.{logged-bytes}
use Rattle.fdp_core.proofs.group.Group.replies_to_log.Goals as goal

pub write_log-requires : goal.write_log-requires
write_log-requires g c =
    let b = c.args.self.now.book in
    c.deref_mut.ensures.value ∙ c.into_buffers-history.ensures.history ∙ ap zeros (logged-bytes b.config (point_in b) c.args.asked.now c.args.room c.requires.accepted c.requires.room)

pub returns : goal.returns
returns g c =
    let b = c.args.self.now.book in
    let p = point_in b in
    let l = c.args.asked.now in
    let old = c.into_buffers-history.result.0.items in
    let told = λ (d : DriveConfig). transfer_of l.offset l.dwords (log_page d p l.lid l.lsp) in
    let tells : Tells c.view.result p = subst (λ (s : Seen g.row.F.Denot). Tells c.view.result (point_in s.book)) c.self.view_is c.view.ensures.tells in
    let same : c.view.result.config ≡ b.config = c.view.ensures.config ∙ ap (λ (s : Seen g.row.F.Denot). s.book.config) c.self.view_is in
    let written : c.write_log.new.into ≡ told b.config = c.write_log.ensures p tells ∙ ap told same in
    let size : length c.write_log.new.into ≡ 4 * l.dwords = ap (λ (xs : List ℕ). length xs) written ∙ part_length l.offset (4 * l.dwords) (log_page b.config p l.lid l.lsp) in
    let room : length old ≡ 4 * l.dwords =
    ap (λ (xs : List ℕ). length xs) (c.into_buffers-history.ensures.history ∙ ap zeros (logged-bytes b.config p l c.args.room c.requires.accepted c.requires.room)) ∙ length-replicate (4 * l.dwords) 0 in
    subst (λ (bytes : List ℕ). IsTwice (read_reply bytes) c.of_read.result)
    (kept-buffer c.write_log.new.into old _ (ap (λ (xs : List ℕ). length xs) (sym c.deref_mut.ensures.value) ∙ c.deref_mut.ensures.len) (size ∙ sym room) ∙ written)
    c.of_read.ensures
