-- Which answers may follow: refusals, reads, and the ends of writes.
use Rattle.std.proofs.Common.{◌≡◌, ℕ, ◌≤◌, Bool, true, false, cond, ◌||◌, IsTrue, List, [], ◌∷◌, length, refl, ap, ◌∙◌, inl, inr, arith, Some, None, Option, MatchBool, subst}
use Rattle.std.specs.Prelude.{nat_lt, not, ◌&&◌, ◌==◌}
use Rattle.std.proofs.lemmas.Bool.{false≢true, ltb-false}
use Rattle.fdp_base.specs.declared.command.Command.{Command}
use Rattle.fdp_base.specs.declared.command.Command.TheVariants as commands
use Rattle.fdp_base.specs.declared.config.DriveConfig.{DriveConfig}
use Rattle.fdp_base.specs.declared.entry.Entry.TheVariants as entries
use Rattle.fdp_base.specs.declared.entry.Reply.{Reply}
use Rattle.fdp_base.specs.declared.status.Status.{Status}
use Rattle.fdp_base.specs.declared.status.TheConstants.Status as statuses
use Rattle.fdp_rules.specs.Answer.{IsSuccess, bare, data_of}
use Rattle.fdp_rules.specs.Change.{after, changed_by, is_media_error}
use Rattle.fdp_base.specs.CommandKinds.{IsWellFormed, blocks_written, is_write}
use Rattle.fdp_rules.specs.PlainState.{Going, PlainState}
use Rattle.fdp_rules.specs.Point.{Point}
use Rattle.fdp_rules.specs.Refusal.{checks_of, is_absent, refusal_of}
use Rattle.fdp_rules.specs.Step.{Follows, IsEnd, IsNewMoment, IsQueue}
use Rattle.fdp_history.specs.OrderlyState.{IsOrderlyGoing}
use Rattle.fdp_book.specs.Room.{read_reply}
use Rattle.fdp_book.specs.Stages.{IsFree}
use Rattle.fdp_base.proofs.Writes.{each-write, few-written}
use Rattle.fdp_base.specs.declared.command.Write.{Write}

-- a fact for each value of a test
match-bool : {P Q : Type 0} → (b : Bool) → (b ≡ true → P) → (b ≡ false → Q) → MatchBool b P Q
match-bool true p q = p refl
match-bool false p q = q refl

-- no media error came before
pub new-moment : (s : PlainState) (moment : ℕ) → s.media ≡ [] → IsNewMoment s moment
new-moment s moment none has = absurd (omega (arith, ap length none, has.1))

-- what a Host entry leaves of the media errors
pub media-ended : (c : DriveConfig) (s : PlainState) (queue number : ℕ) (command : Command) (reply : Reply) (moment : ℕ) → is_media_error reply.status ≡ false → s.media ≡ [] → (after c s (entries.Host (record { queue = queue; number = number; command = command; reply = reply; moment = moment }))).media ≡ []
unfolding after changed_by
media-ended c s queue number command reply moment fine none = ap (λ b. cond b (moment ∷ s.media) s.media) fine ∙ none

-- ---- refusals

-- a command may be refused, of which no write is going
pub refused-follows : (told : Bool) (c : DriveConfig) (p : Point) (queue number : ℕ) (command : Command) (status : Status) (moment : ℕ) → IsQueue c queue → IsWellFormed c command → IsFree p.state queue number → refusal_of c p command ≡ Some status → Follows told c p (entries.Host (record { queue = queue; number = number; command = command; reply = bare status false; moment = moment }))
unfolding Follows
refused-follows told c p queue number command status moment queue_is formed free e = record {
  queue_is = queue_is;
  formed = formed;
  replied = match-bool (is_write command)
      (λ _. inr ((λ g going. free g going.going going.same_number), (status, e, refl)))
      (λ _. inl (status, e, refl));
}

-- ---- reads

second-passes : (a b : Bool) (x y : Status) (rest : Option Status) → cond a (Some x) (cond b (Some y) rest) ≡ None → b ≡ false
second-passes true b x y rest e = absurd cc
second-passes false true x y rest e = absurd cc
second-passes false false x y rest e = refl

-- a read that is not refused asks for no more blocks than a command may
pub accepted-few : (c : DriveConfig) (p : Point) (nsid slba count : ℕ) → refusal_of c p (commands.Read (record { nsid = nsid; slba = slba; count = count })) ≡ None → count ≤ c.blocks_per_command
unfolding refusal_of checks_of
accepted-few c p nsid slba count e = ltb-false c.blocks_per_command count (second-passes (is_absent p.state nsid) (nat_lt c.blocks_per_command count) statuses.INVALID_NAMESPACE statuses.INVALID_FIELD _ e)

first-false : (a b d : Bool) → a || b || d ≡ false → a ≡ false
first-false true b d e = e
first-false false b d e = refl

accepted-write : (c : DriveConfig) (p : Point) (w : Write) → refusal_of c p (commands.Write w) ≡ None → w.count ≤ c.blocks_per_command
unfolding refusal_of checks_of
accepted-write c p w e =
    let bad = second-passes (is_absent p.state w.nsid) (nat_lt c.blocks_per_command w.count || not (w.dtype == 0 || w.dtype == 2) || (w.dtype == 2 && not p.state.enabled)) statuses.INVALID_NAMESPACE statuses.INVALID_FIELD _ e in
    ltb-false c.blocks_per_command w.count (first-false (nat_lt c.blocks_per_command w.count) (not (w.dtype == 0 || w.dtype == 2)) (w.dtype == 2 && not p.state.enabled) bad)

-- a command that is not refused writes no more blocks than a command may
pub accepted-blocks : (c : DriveConfig) (p : Point) (command : Command) → refusal_of c p command ≡ None → blocks_written command ≤ c.blocks_per_command
accepted-blocks c p command e = few-written c.blocks_per_command command (λ w is. accepted-write c p w (subst (λ (x : Command). refusal_of c p x ≡ None) is e))

-- the bytes of a read
pub read-follows : (told : Bool) (c : DriveConfig) (p : Point) (queue number nsid slba count : ℕ) (bytes : List ℕ) (moment : ℕ) → IsQueue c queue → IsWellFormed c (commands.Read (record { nsid = nsid; slba = slba; count = count })) → refusal_of c p (commands.Read (record { nsid = nsid; slba = slba; count = count })) ≡ None → length bytes ≡ length (data_of c p (commands.Read (record { nsid = nsid; slba = slba; count = count }))) → (IsTrue told → bytes ≡ data_of c p (commands.Read (record { nsid = nsid; slba = slba; count = count }))) → Follows told c p (entries.Host (record { queue = queue; number = number; command = commands.Read (record { nsid = nsid; slba = slba; count = count }); reply = read_reply bytes; moment = moment }))
unfolding Follows
read-follows told c p queue number nsid slba count bytes moment queue_is formed e size are = record {
  queue_is = queue_is;
  formed = formed;
  replied = inr (inl (e, record { status = refl; dword0 = refl; size = size; bytes_are = λ t. are (told-alone told t); applied = refl }));
}
  where
    told-alone : (b : Bool) → b || false ≡ true → b ≡ true
    told-alone true h = refl
    told-alone false h = absurd (false≢true h)

-- a read whose fetch failed
pub unread-follows : (told : Bool) (c : DriveConfig) (p : Point) (queue number nsid slba count : ℕ) (moment : ℕ) → IsQueue c queue → IsWellFormed c (commands.Read (record { nsid = nsid; slba = slba; count = count })) → refusal_of c p (commands.Read (record { nsid = nsid; slba = slba; count = count })) ≡ None → IsNewMoment p.state moment → Follows told c p (entries.Host (record { queue = queue; number = number; command = commands.Read (record { nsid = nsid; slba = slba; count = count }); reply = bare statuses.UNRECOVERED_READ_ERROR false; moment = moment }))
unfolding Follows
unread-follows told c p queue number nsid slba count moment queue_is formed e new = record {
  queue_is = queue_is;
  formed = formed;
  replied = inr (inr (e, new, inl (refl, refl)));
}

-- ---- the ends of writes

is-write : (P Q : Type 0) (b : Bool) → b ≡ true → P → MatchBool b P Q
is-write P Q true e p = p
is-write P Q false e p = absurd (false≢true e)

-- a going write may end so
pub end-follows : (told : Bool) (c : DriveConfig) (p : Point) (queue : ℕ) (g : Going) (reply : Reply) (moment : ℕ) → IsOrderlyGoing c p.state queue g → p.state.going queue ≡ Some g → IsEnd told c p g reply moment → Follows told c p (entries.Host (record { queue = queue; number = g.number; command = g.command; reply = reply; moment = moment }))
unfolding Follows
end-follows told c p queue g reply moment h going ends = record {
  queue_is = h.queue_is;
  formed = h.formed;
  replied = is-write _ _ (is_write g.command) h.write (inl (g, record { going = going; same_number = refl; same_command = refl }, ends));
}

-- a success of a write
pub write-succeeds : (told : Bool) (c : DriveConfig) (p : Point) (command : Command) → IsTrue (is_write command) → IsSuccess told c p command (bare statuses.SUCCESS true)
write-succeeds told c p command write =
    each-write (λ x. IsSuccess told c p x (bare statuses.SUCCESS true)) (λ w. record { status = refl; dword0 = refl; size = refl; bytes_are = λ _. refl; applied = refl }) command write
