-- How a group ends a write whose pages are placed.
use Rattle.std.proofs.Common.{◌≡◌, true, false, ap, sym, ◌∙◌, subst, inl, inr, Err}
use Rattle.std.proofs.lemmas.Bool.{false≢true}
use Rattle.fdp_base.specs.declared.status.Status.{Status}
use Rattle.fdp_base.specs.declared.status.TheConstants.Status as statuses
use Rattle.fdp_relocation.specs.fdp_book.declared.ticket.Done.{Done}
use Rattle.fdp_relocation.specs.fdp_book.declared.ticket.Ticket.{Ticket}
use Rattle.fdp_relocation.specs.fdp_book.Book.{BookSeen, point_in, state_in}
use Rattle.fdp_relocation.specs.fdp_book.Steps as book
use Rattle.fdp_relocation.specs.fdp_book.Tickets.{IsTicketOf}
use Rattle.fdp_relocation.proofs.fdp_book.Histories.Follows.{write-succeeds}
use Rattle.fdp_core.specs.Answers.{Commits, EndsAlone}
use Rattle.fdp_core.specs.Ending.{MayEnd}
use Rattle.fdp_core.specs.Seen.{Seen}
use Rattle.fdp_flash.specs.FlashState.{FlashState}
use Rattle.fdp_history.specs.Orderly.{IsOrderly}
use Rattle.fdp_rules.specs.Answer.{bare}
use Rattle.fdp_rules.specs.Change.{is_media_error, is_status}
use Rattle.fdp_rules.specs.PlainState.{Going}
use Rattle.fdp_rules.specs.Step.{IsEnd, MaySucceed}

-- a write that may succeed does
pub may-succeed : (f : FlashState) (b : BookSeen) (ticket : Ticket) (g : Going) → IsOrderly b.config (point_in b) → IsTicketOf (state_in b) ticket g → MaySucceed b.config (point_in b) g → IsEnd f.told b.config (point_in b) g (bare statuses.SUCCESS true) f.moment
may-succeed f b ticket g orderly is may = inr (inr (inl (may, write-succeeds f.told b.config (point_in b) g.command (orderly.state.writes ticket.queue g is.going_is).write)))

-- a verdict against a write is one that may follow, and no media error
pub verdict-ends : {F : Type 0} (state : F → FlashState) (s : Seen F) (g : Going) (status : Status) → book.IsVerdict s.book g (Err status) → MayEnd state s g status
verdict-ends state s g status (inl gone) = record {
  legal = λ _. inl (gone.0, ap (λ (x : Status). bare x false) gone.1);
  fault = λ wrong. absurd (false≢true (ap is_media_error (sym gone.1) ∙ wrong));
}
verdict-ends state s g status (inr over) = record {
  legal = λ _. inr (inl (over.0, over.1, ap (λ (x : Status). bare x false) over.2));
  fault = λ wrong. absurd (false≢true (ap is_media_error (sym over.2) ∙ wrong));
}

pub verdict-fine : (b : BookSeen) (g : Going) (status : Status) → book.IsVerdict b g (Err status) → is_media_error status ≡ false
verdict-fine b g status (inl gone) = ap is_media_error gone.1
verdict-fine b g status (inr over) = ap is_media_error over.2

pub commits-err : {F : Type 0} (state : F → FlashState) (old new : Seen F) (ticket : Ticket) (g : Going) (status : Status) (done : Done) → book.IsVerdict old.book g (Err status) → EndsAlone state old new ticket g (bare status false) done → Commits state old new ticket g done
commits-err state old new ticket g status done (inl gone) ends = inl (gone.0, subst (λ (x : Status). EndsAlone state old new ticket g (bare x false) done) gone.1 ends)
commits-err state old new ticket g status done (inr over) ends = inr (inl (over.0, over.1, subst (λ (x : Status). EndsAlone state old new ticket g (bare x false) done) over.2 ends))

-- and it is not Success
pub verdict-status : (b : BookSeen) (g : Going) (status : Status) → book.IsVerdict b g (Err status) → is_status status statuses.SUCCESS ≡ false
verdict-status b g status (inl gone) = ap (λ (x : Status). is_status x statuses.SUCCESS) gone.1
verdict-status b g status (inr over) = ap (λ (x : Status). is_status x statuses.SUCCESS) over.2
