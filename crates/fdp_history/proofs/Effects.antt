-- What a completed command leaves.
use Rattle.std.proofs.Common.{◌≡◌, ℕ, ◌+◌, ◌≤◌, Bool, true, false, cond, List, ◌∷◌, length, Option, Some, None, refl, sym, ◌∙◌, ap, subst, arith, ⊎_elim}
use Rattle.std.specs.Prelude.{◌&&◌, IsTrue, MatchBool, if◌then◌else◌}
use Rattle.fdp_base.specs.declared.command.Command.{Command}
use Rattle.fdp_base.specs.declared.config.DriveConfig.{DriveConfig}
use Rattle.fdp_base.specs.declared.entry.Entry.TheVariants as entries
use Rattle.fdp_base.specs.declared.entry.Reply.{Reply}
use Rattle.fdp_rules.specs.Change.{after, changed_by, is_media_error}
use Rattle.fdp_base.specs.CommandKinds.{is_write}
use Rattle.fdp_base.specs.Config.{IsValidConfig}
use Rattle.fdp_rules.specs.Effect.{effect_of, is_in_ranges}
use Rattle.fdp_base.specs.Numbers.{is_among, with_at}
use Rattle.fdp_rules.specs.PlainState.{Going, PlainState}
use Rattle.fdp_rules.specs.Point.{Point}
use Rattle.fdp_rules.specs.Refusal.{refusal_of}
use Rattle.fdp_rules.proofs.Effects.{by-effect}
use Rattle.fdp_rules.specs.Step.{IsEnd, IsGoing, IsHost, IsPlainReply, IsWriteReply, MaySucceed}
use Rattle.fdp_history.specs.OrderlyState.{IsOrderlyState}
use Rattle.fdp_history.proofs.Blocks.{without_blocks-orderly, write-orderly}
use Rattle.fdp_history.proofs.Checks.{accepted-create, accepted-feature}
use Rattle.fdp_history.proofs.Parts.{going-fewer, later, media-changed, orderly-later, reports-changed}
use Rattle.fdp_history.proofs.References.{own-references, references-changed, updates-orderly}
use Rattle.fdp_history.proofs.Spaces.{configured-orderly, created-orderly, deleted-orderly}
use Rattle.fdp_history.proofs.Tables.{with_at-each}

-- ---- a command whose change is made

-- a write that was going and may succeed, or another command that is not refused
abbrev pub IsApplicable : DriveConfig → Point → ℕ → ℕ → Command → Type 0
IsApplicable c p queue number command = MatchBool (is_write command) ((g : Going) × IsGoing p.state queue number command g × MaySucceed c p g) (refusal_of c p command ≡ None)

module _ (told : Bool) (c : DriveConfig) (p : Point) (queue number : ℕ) (command : Command) (reply : Reply) (moment : ℕ) (applied : IsTrue reply.applied) where
  -- a reply that is not applied
  unmade : (r : Reply) → r.applied ≡ false → reply ≡ r → ⊥
  unmade r none e = let no : true ≡ false = sym applied ∙ ap (λ (x : Reply). x.applied) e ∙ none in cc

  ended : (g : Going) → IsEnd told c p g reply moment → MaySucceed c p g
  ended g end =
      ⊎_elim
      (λ gone. absurd (unmade _ refl gone.1))
      (λ more. ⊎_elim
      (λ full. absurd (unmade _ refl full.2))
      (λ more. ⊎_elim
      (λ success. success.0)
      (λ more. ⊎_elim (λ failed. failed.0) (λ early. absurd (unmade _ refl early.3)) more)
      more)
      more)
      end

  either : (b : Bool) → MatchBool b (IsWriteReply told c p queue number command reply moment) (IsPlainReply told c p command reply moment) → MatchBool b ((g : Going) × IsGoing p.state queue number command g × MaySucceed c p g) (refusal_of c p command ≡ None)
  either true replied = ⊎_elim (λ going. (going.0, going.1, ended going.0 going.2)) (λ refused. absurd (unmade _ refl refused.1.2)) replied
  either false replied = ⊎_elim (λ refused. absurd (unmade _ refl refused.2)) (λ more. ⊎_elim (λ success. success.0) (λ failed. failed.0) more) replied

  -- a command whose change is made
  pub applicable : IsHost told c p queue number command reply moment → IsApplicable c p queue number command
  applicable host = either (is_write command) host.replied

pub effect-orderly : (c : DriveConfig) (p : Point) (queue number : ℕ) (command : Command) → IsValidConfig c → IsApplicable c p queue number command → IsOrderlyState c p.state → IsOrderlyState c (later (effect_of c p.state queue command))
unfolding effect_of
effect-orderly c p queue number command valid applies h =
    let P : Command → Type 0 = λ x. IsApplicable c p queue number x → IsOrderlyState c (later (effect_of c p.state queue x)) in
    by-effect P
    (record {
      write = λ w may. orderly-later c _ (write-orderly c p.state queue may.0 w.nsid w.slba w.count w.dtype w.dspec w.payload valid may.1.going may.1.same_command may.2.there h);
      zero = λ z may. orderly-later c _ (without_blocks-orderly c p.state z.nsid (is_among z.slba z.count) h);
      dealloc = λ d may. orderly-later c _ (without_blocks-orderly c p.state d.nsid (λ lba. d.deallocate && is_in_ranges d.ranges lba) h);
      delete = λ d may. deleted-orderly c p.state d.nsid h;
      update = λ u may. orderly-later c _ (references-changed c p.state _ (updates-orderly c p.state u.nsid p.state p.state.references u.pids valid (own-references c p.state h)) h);
      set_fdp = λ s may.
          let accepted = accepted-feature c p s.group s.enable s.index may in
          configured-orderly c p.state s.enable s.index valid accepted.0 accepted.1 h;
      set_events = λ s may. orderly-later c _ (reports-changed c p.state _ h);
      create = λ create may. created-orderly c p.state create.size create.given create.list valid (accepted-create c p create.size create.given create.list may) h;
      nothing = λ x none may. subst (λ (t : PlainState). IsOrderlyState c (later t)) (sym (none.state c p.state queue)) (orderly-later c p.state h);
    })
    command applies

-- ---- what no change of a command touches

-- the position, the going writes and the moments of errors are those of before
pub record KeepsRest (s done : PlainState) : Type 0 where
  pub position : done.position ≡ s.position
  pub going : done.going ≡ s.going
  pub media : done.media ≡ s.media

effect-rest : (c : DriveConfig) (s : PlainState) (queue : ℕ) (command : Command) → KeepsRest s (effect_of c s queue command)
unfolding effect_of
effect-rest c s queue command =
    by-effect (λ (x : Command). KeepsRest s (effect_of c s queue x))
    (record {
      write = λ w. record { position = refl; going = refl; media = refl };
      zero = λ z. record { position = refl; going = refl; media = refl };
      dealloc = λ d. record { position = refl; going = refl; media = refl };
      delete = λ d. record { position = refl; going = refl; media = refl };
      update = λ u. record { position = refl; going = refl; media = refl };
      set_fdp = λ x. record { position = refl; going = refl; media = refl };
      set_events = λ x. record { position = refl; going = refl; media = refl };
      create = λ x. record { position = refl; going = refl; media = refl };
      nothing = λ x none. subst (KeepsRest s) (sym (none.state c s queue)) (record { position = refl; going = refl; media = refl });
    })
    command

-- ---- a completed command

-- the writes that are going after a command
pub fewer-going : (s : PlainState) (queue : ℕ) (b : Bool) (i : ℕ) (g : Going) → (if b then with_at s.going queue None else s.going) i ≡ Some g → s.going i ≡ Some g
fewer-going s queue true i g e = with_at-each s.going queue None (λ k o. o ≡ Some g → s.going k ≡ Some g) (λ none. absurd cc) (λ k ne some. some) i e
fewer-going s queue false i g e = e

-- one moment more at most
one-moment : (media : List ℕ) (moment n : ℕ) (b : Bool) → length media ≤ n → length (if b then moment ∷ media else media) ≤ n + 1
one-moment media moment n true bound = omega (arith, bound)
one-moment media moment n false bound = omega (arith, bound)

-- the end of a command, after its change if that was made
completed-orderly : (c : DriveConfig) (s done : PlainState) (queue moment : ℕ) (write failed : Bool) → KeepsRest s done → IsOrderlyState c s → IsOrderlyState c (later done)
    → IsOrderlyState c (record done { going = if write then with_at s.going queue None else s.going; media = if failed then moment ∷ s.media else s.media; position = s.position + 1 })
completed-orderly c s done queue moment write failed rest h changed =
    let first : PlainState = record done { position = s.position + 1 } in
    let at : IsOrderlyState c first = subst (λ (n : ℕ). IsOrderlyState c (record done { position = n + 1 })) rest.position changed in
    let fewer : (i : ℕ) (g : Going) → (if write then with_at s.going queue None else s.going) i ≡ Some g → done.going i ≡ Some g =
    λ i g e. ap (λ (f : ℕ → Option Going). f i) rest.going ∙ fewer-going s queue write i g e in
    media-changed c _ _ (one-moment s.media moment s.position failed h.media) (going-fewer c first _ fewer at)

-- a command was completed whose change, where it was made, left an orderly state
pub host-orderly : (c : DriveConfig) (s : PlainState) (queue number : ℕ) (command : Command) (reply : Reply) (moment : ℕ) → (IsTrue reply.applied → IsOrderlyState c (later (effect_of c s queue command))) → IsOrderlyState c s → IsOrderlyState c (after c s (entries.Host (record { queue = queue; number = number; command = command; reply = reply; moment = moment })))
unfolding after changed_by
host-orderly c s queue number command reply moment made h =
    let P : Bool → Type 0 = λ b. reply.applied ≡ b → KeepsRest s (cond b (effect_of c s queue command) s) × IsOrderlyState c (later (cond b (effect_of c s queue command) s)) in
    let done = (elim reply.applied as P [ true ↦ λ e. (effect-rest c s queue command, made e) | false ↦ λ e. (record { position = refl; going = refl; media = refl }, orderly-later c s h) ]) refl in
    completed-orderly c s (if reply.applied then effect_of c s queue command else s) queue moment (is_write command) (is_media_error reply.status) done.0 h done.1
