-- What each entry changes in the plain state.
use Rattle.std.specs.Prelude.{ℕ, ◌+◌, ◌-◌, ◌/◌, Bool, true, false, ◌&&◌, ◌||◌, ◌∷◌, ◌==◌, nat_lt, Option, Some, None, if◌then◌else◌, find, option_and_then, option_map}
use Rattle.std.specs.Option.{option_map_or}
use Rattle.fdp_base.specs.declared.command.Command.{Command}
use Rattle.fdp_base.specs.declared.config.DriveConfig.{DriveConfig}
use Rattle.fdp_base.specs.declared.entry.Entry.{Entry}
use Rattle.fdp_base.specs.declared.entry.Entry.TheVariants as entries
use Rattle.fdp_base.specs.declared.entry.Reply.{Reply}
use Rattle.fdp_base.specs.declared.status.Status.{Status}
use Rattle.fdp_base.specs.declared.status.TheConstants.Status as statuses
use Rattle.fdp_base.specs.CommandKinds.{is_write, nsid_of}
use Rattle.fdp_rules.specs.Effect.{References, effect_of, no_reference, with_reference, without_references}
use Rattle.fdp_base.specs.Numbers.{numbers_from, with_at}
use Rattle.fdp_rules.specs.PlainState.{Going, PlainState, Reference}
use Rattle.fdp_rules.specs.Room.{roomiest}

abbrev pub is_status : Status → Status → Bool
is_status a b = a.sct == b.sct && a.sc == b.sc

-- a status that tells of a media error
abbrev pub is_media_error : Status → Bool
is_media_error status = is_status status statuses.WRITE_FAULT || is_status status statuses.UNRECOVERED_READ_ERROR

-- the position at which a namespace was created, 0 where it is not there
abbrev pub birth_of : PlainState → ℕ → ℕ
birth_of s nsid = option_map_or (λ x. x.birth) (s.namespaces nsid) 0

-- the write that is going in a queue has this ticket
abbrev pub holds_ticket : PlainState → ℕ → ℕ → Bool
holds_ticket s ticket queue = option_map_or (λ g. g.ticket == ticket) (s.going queue) false

-- the going write with this ticket
abbrev pub going_with : DriveConfig → PlainState → ℕ → Option Going
going_with c s ticket = option_and_then s.going (find (holds_ticket s ticket) (numbers_from 1 c.queues))

-- a page of a handle's unit was programmed: one block less may be written, and after the last the handle has no unit
abbrev pub one_less : DriveConfig → ℕ → Reference → Reference
one_less c unit x = if nat_lt 1 x.left then record { unit = Some unit; left = x.left - 1 } else no_reference c

-- a page was programmed for a going write, if there is one
abbrev pub placed_references : DriveConfig → References → ℕ → Option Going → References
placed_references c references unit None = references
placed_references c references unit (Some g) = with_reference references g.rg g.ruh (one_less c unit (references g.rg g.ruh))

abbrev pub one_more_placed : Going → Going
one_more_placed g = record g { placed = g.placed + 1 }

abbrev pub placed_going : PlainState → ℕ → ℕ → Option Going
placed_going s ticket queue = if holds_ticket s ticket queue then option_map one_more_placed (s.going queue) else s.going queue

-- the write that a Started entry lets go
abbrev pub started : DriveConfig → PlainState → ℕ → Command → ℕ → ℕ → Bool → Going
started c s number command rg ruh pid_valid = record {
  number = number;
  command = command;
  ticket = s.position + 1;
  birth = birth_of s (nsid_of command);
  rg = rg;
  ruh = ruh;
  pid_valid = pid_valid;
  roomiest = roomiest c s;
  placed = 0;
}

-- what a command leaves: its change where that is made; no write going in its queue after a write; the moment of a media error
abbrev pub completed_in : DriveConfig → PlainState → ℕ → Command → Reply → ℕ → PlainState
completed_in c s queue command reply moment =
    let done = if reply.applied then effect_of c s queue command else s in
    record done {
      going = if is_write command then with_at s.going queue None else s.going;
      media = if is_media_error reply.status then moment ∷ s.media else s.media;
    }

-- what an entry changes but for the position
unfoldable pub changed_by : DriveConfig → PlainState → Entry → PlainState
changed_by c s (entries.Host h) = completed_in c s h.queue h.command h.reply h.moment
changed_by c s (entries.Started e) = record s { going = with_at s.going e.queue (Some (started c s e.number e.command e.rg e.ruh e.pid_valid)) }
changed_by c s (entries.Placed p) = record s {
  references = placed_references c s.references p.unit (going_with c s p.ticket);
  going = placed_going s p.ticket;
}
changed_by c s (entries.Copied copied) = s
changed_by c s (entries.Moved m) = s
changed_by c s (entries.Erased e) = record s { is_worn = with_at s.is_worn (e.unit / c.units) false }
changed_by c s (entries.Retired r) = record s { is_lost = with_at s.is_lost r.unit true }
changed_by c s (entries.Aside a) = record s { is_lost = with_at s.is_lost a.unit true }
changed_by c s (entries.Shut shut) = record s { references = with_reference s.references shut.rg shut.ruh (no_reference c) }
changed_by c s (entries.Worn w) = record s { is_worn = with_at s.is_worn w.rg true }
changed_by c s entries.Reopened = record (without_references c s) {
  going = λ queue. None;
  is_lost = λ unit. false;
  is_worn = λ rg. false;
}

-- the state after an entry
unfoldable pub after : DriveConfig → PlainState → Entry → PlainState
after c s e = record (changed_by c s e) { position = s.position + 1 }
