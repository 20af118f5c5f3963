-- What each entry that may follow does to the contents.
use Rattle.std.proofs.Common.{◌≡◌, ℕ, Bool, ◌∷◌, None, refl, sym, ◌∙◌, ap, subst}
use Rattle.std.specs.Prelude.{IsFalse, MatchBool, if◌then◌else◌}
use Rattle.fdp_base.specs.declared.command.Command.{Command}
use Rattle.fdp_base.specs.declared.config.DriveConfig.{DriveConfig}
use Rattle.fdp_base.specs.declared.entry.Entry.{Entry}
use Rattle.fdp_base.specs.declared.entry.Entry.TheVariants as entries
use Rattle.fdp_base.specs.declared.entry.Reply.{Reply}
use Rattle.fdp_rules.specs.Change.{after, changed_by, is_media_error}
use Rattle.fdp_rules.specs.Next.{next}
use Rattle.fdp_rules.specs.PlainState.{Going, PlainState}
use Rattle.fdp_rules.specs.Point.{Point}
use Rattle.fdp_rules.specs.Refusal.{refusal_of}
use Rattle.fdp_rules.specs.Step.{Follows, IsGoing, IsHost, IsPlaced, MaySucceed}
use Rattle.fdp_history.specs.OrderlyState.{IsOrderlyState}
use Rattle.fdp_history.proofs.Effects.{applicable}
use Rattle.fdp_pointers.specs.Contents.{content_at, page_of_write, renamed_by, tells_placed}
use Rattle.fdp_pointers.specs.Pointers.{Pointer, Pointer.of_block, Pointer.of_flight, is_block, only, pointed, renamed}
use Rattle.fdp_pointers.proofs.Changes.{IsMade, content-ended, content-placed, content-started, everywhere}
use Rattle.fdp_base.specs.CommandKinds.{blocks_written}

-- a write whose change is made has all its pages
made-whole : (told : Bool) (c : DriveConfig) (p : Point) (queue number : ℕ) (command : Command) (reply : Reply) (moment : ℕ) → IsHost told c p queue number command reply moment → IsMade p.state queue reply.applied command
made-whole told c p queue number command reply moment host made write =
    let may = subst (λ (t : Bool). MatchBool t ((g : Going) × IsGoing p.state queue number command g × MaySucceed c p g) (refusal_of c p command ≡ None)) write (applicable told c p queue number command reply moment made host) in
    record {
      g = may.0;
      going = may.1.going;
      same = may.1.same_command;
      there = may.2.there;
      placed = may.2.placed ∙ ap blocks_written may.1.same_command;
    }

content-host : (told : Bool) (c : DriveConfig) (p : Point) (queue number : ℕ) (command : Command) (reply : Reply) (moment : ℕ) → IsOrderlyState c p.state → IsHost told c p queue number command reply moment
    → content_at c (after c p.state (entries.Host (record { queue = queue; number = number; command = command; reply = reply; moment = moment }))) ≡ renamed (renamed_by p.state (entries.Host (record { queue = queue; number = number; command = command; reply = reply; moment = moment }))) (content_at c p.state)
unfolding after changed_by
content-host told c p queue number command reply moment orderly host =
    everywhere _ _ (content-ended c p.state queue command reply.applied (if is_media_error reply.status then moment ∷ p.state.media else p.state.media) orderly (made-whole told c p queue number command reply moment host))

content-reopened : (c : DriveConfig) (s : PlainState) → content_at c (after c s entries.Reopened) ≡ renamed (only is_block) (content_at c s)
unfolding after changed_by
content-reopened c s = everywhere _ _ at where
  at : (p : Pointer) → content_at c (after c s entries.Reopened) p ≡ renamed (only is_block) (content_at c s) p
  at (of_block nsid lba) = refl
  at (of_flight q i) = refl

-- an entry that places no page renames the pointers
content-renamed : (told : Bool) (c : DriveConfig) (p : Point) (e : Entry) → IsOrderlyState c p.state → Follows told c p e → IsFalse (tells_placed e) → content_at c (after c p.state e) ≡ renamed (renamed_by p.state e) (content_at c p.state)
unfolding Follows after changed_by
content-renamed told c p (entries.Host h) orderly step other = content-host told c p h.queue h.number h.command h.reply h.moment orderly step
content-renamed told c p (entries.Started s) orderly step other = content-started c p.state s.queue s.number s.command s.rg s.ruh s.pid_valid
content-renamed told c p (entries.Placed placed) orderly step other = absurd cc
content-renamed told c p (entries.Copied copied) orderly step other = refl
content-renamed told c p (entries.Moved m) orderly step other = refl
content-renamed told c p (entries.Erased e) orderly step other = refl
content-renamed told c p (entries.Retired r) orderly step other = refl
content-renamed told c p (entries.Aside a) orderly step other = refl
content-renamed told c p (entries.Shut s) orderly step other = refl
content-renamed told c p (entries.Worn w) orderly step other = refl
content-renamed told c p entries.Reopened orderly step other = content-reopened c p.state

pub contents-renamed : (told : Bool) (c : DriveConfig) (p : Point) (e : Entry) → IsOrderlyState c p.state → Follows told c p e → IsFalse (tells_placed e) → content_at c (next c p e).state ≡ renamed (renamed_by p.state e) (content_at c p.state)
unfolding next
contents-renamed told c p e orderly step other = content-renamed told c p e orderly step other

-- a page that is placed is one page more of its write
pub contents-placed : (c : DriveConfig) (p : Point) (ticket index unit page : ℕ) → IsOrderlyState c p.state → (placed : IsPlaced c p ticket index unit page)
    → content_at c (next c p (entries.Placed (record { ticket = ticket; index = index; unit = unit; page = page }))).state ≡ pointed (content_at c p.state) placed.queue index (page_of_write c placed.going index)
unfolding next
contents-placed c p ticket index unit page orderly placed =
    subst (λ (t : ℕ). content_at c (after c p.state (entries.Placed (record { ticket = t; index = index; unit = unit; page = page }))) ≡ pointed (content_at c p.state) placed.queue index (page_of_write c placed.going index)) placed.same
    (subst (λ (i : ℕ). content_at c (after c p.state (entries.Placed (record { ticket = placed.going.ticket; index = i; unit = unit; page = page }))) ≡ pointed (content_at c p.state) placed.queue i (page_of_write c placed.going i)) (sym placed.next)
    (content-placed c p.state unit page placed.queue placed.going orderly placed.going_is placed.there))
