-- Which command an entry with its data says.
use Rattle.std.specs.Prelude.{◌≡◌, ℕ, ◌*◌, ◌^◌, ◌<◌, Bool, List, [], length, flat_map}
use Rattle.std.specs.Int.{to_le_bytes, w16}
use Rattle.std.specs.List.{AllZip}
use Rattle.fdp_base.specs.declared.command.Command.{Command}
use Rattle.fdp_base.specs.declared.command.Command.TheVariants as commands
use Rattle.fdp_base.specs.declared.command.Range.{Range}
use Rattle.fdp_base.specs.declared.payload.Payload.{Payload}
use Rattle.fdp_base.specs.declared.payload.Payload.TheVariants as payloads
use Rattle.fdp_layouts.specs.declared.submission.Sqe.{Sqe}
use Rattle.fdp_layouts.specs.Frame.{Fits}
use Rattle.fdp_layouts.specs.Range.{dsm_range, dsm_range_numbers}
use Rattle.fdp_queues.specs.Data.{pattern, range_bytes, with_attributes}
use Rattle.fdp_binary.specs.declared.asked.Asked.{Asked}
use Rattle.fdp_binary.specs.declared.asked.Asked.TheVariants as kinds
use Rattle.fdp_binary.specs.Asked.{Asks}
use Rattle.fdp_binary.specs.Fields.{blocks_in, dealloc_in, delete_in, flush_in, get_fdp_in, log_in, other_in, pids_in, ranges_in, read_in, set_events_in, set_fdp_in, status_in, types_in, update_in, write_in, zero_in}

-- ---- data

-- data of so many blocks are this payload: a pattern where they are one, else their bytes
abbrev pub IsPayload : ℕ → ℕ → List ℕ → Payload → Type 0
IsPayload block count body (payloads.Pattern seed) = (seed < 2 ^ 32) × (body ≡ pattern block count seed)
IsPayload block count body (payloads.Bytes bytes) = (bytes ≡ body) × ((seed : ℕ) → seed < 2 ^ 32 → body ≡ pattern block count seed → ⊥)

-- the data are pieces, one for each item
pub record AreLaid {X : Type 0} (IsItem : List ℕ → X → Type 0) (body : List ℕ) (items : List X) : Type 0 where
  pub pieces : List (List ℕ)
  pub whole : body ≡ flat_map (λ piece. piece) pieces
  pub each : AllZip IsItem pieces items

-- 16 bytes are a range, with whatever attributes
abbrev pub IsRange : List ℕ → Range → Type 0
IsRange piece range = (attributes : ℕ) × Fits dsm_range (dsm_range_numbers (with_attributes attributes range)) × (piece ≡ range_bytes (with_attributes attributes range))

-- two bytes are a placement identifier
abbrev pub IsPid : List ℕ → ℕ → Type 0
IsPid piece pid = (pid < 2 ^ 16) × (piece ≡ to_le_bytes w16 pid)

-- ---- commands

-- an entry with its data says this command; what a case does not name is ignored
abbrev pub Says : ℕ → Bool → Sqe → List ℕ → Command → Type 0
Says block admin e body (commands.Write w) = Asks admin e kinds.Write × (w ≡ write_in e w.payload) × (length body ≡ blocks_in e * block) × IsPayload block (blocks_in e) body w.payload
Says block admin e body (commands.Read r) = Asks admin e kinds.Read × (r ≡ read_in e) × (body ≡ [])
Says block admin e body (commands.Zero z) = Asks admin e kinds.Zero × (z ≡ zero_in e) × (body ≡ [])
Says block admin e body (commands.Dealloc d) = Asks admin e kinds.Dealloc × (d ≡ dealloc_in e d.ranges) × (length d.ranges ≡ ranges_in e) × AreLaid IsRange body d.ranges
Says block admin e body (commands.Flush f) = Asks admin e kinds.Flush × (f ≡ flush_in e) × (body ≡ [])
Says block admin e body (commands.Status s) = Asks admin e kinds.Status × (s ≡ status_in e) × (body ≡ [])
Says block admin e body (commands.Update u) = Asks admin e kinds.Update × (u ≡ update_in e u.pids) × (length u.pids ≡ pids_in e) × AreLaid IsPid body u.pids
Says block admin e body (commands.Log l) = Asks admin e kinds.Log × (l ≡ log_in e) × (body ≡ [])
Says block admin e body (commands.SetFdp s) = Asks admin e kinds.SetFdp × (s ≡ set_fdp_in e) × (body ≡ [])
Says block admin e body (commands.GetFdp g) = Asks admin e kinds.GetFdp × (g ≡ get_fdp_in e) × (body ≡ [])
Says block admin e body (commands.SetEvents s) = Asks admin e kinds.SetEvents × (s ≡ set_events_in e s.types) × (length s.types ≡ types_in e) × (body ≡ s.types)
Says block admin e body (commands.Delete d) = Asks admin e kinds.Delete × (d ≡ delete_in e) × (body ≡ [])
Says block admin e body (commands.Create c) = ⊥
Says block admin e body (commands.Other o) = ((kind : Asked) → Asks admin e kind → ⊥) × (o ≡ other_in admin e) × (body ≡ [])
