-- What a checkpoint says that no drive of a configuration would save.
use Rattle.std.specs.Prelude.{◌≡◌, ℕ, ◌+◌, ◌-◌, ◌*◌, ◌<◌, ◌≤◌, suc, Bool, IsTrue, not, ◌&&◌, All, List, [], ◌∷◌, ◌==◌, drop, take, length, nat_le, nat_lt, position, slice_index, Option, Some, None, if◌then◌else◌, option_map}
use Rattle.fdp_base.specs.declared.config.DriveConfig.{DriveConfig}
use Rattle.fdp_base.specs.declared.event.Event.{Event}
use Rattle.fdp_base.specs.Placement.{full_budget, handle_count}
use Rattle.fdp_rules.specs.Events.{is_host_event}
use Rattle.fdp_snapshot.specs.declared.space.Space.{Space}
use Rattle.fdp_snapshot.specs.declared.state.Summary.{Summary}
use Rattle.fdp_image.specs.Fits.{is_handle_list}

-- a mask has a bit that is that of no kind of event
abbrev pub has_stray_bit : ℕ → Bool
has_stray_bit mask = not (nat_lt mask 64)

-- a mask has a bit
abbrev pub has_any_bit : ℕ → Bool
has_any_bit mask = not (mask == 0)

-- a namespace that there may be, of so many handles, by this position and with so much room left
abbrev pub may_stand : ℕ → ℕ → ℕ → Space → Bool
may_stand count position room x = is_handle_list count x.handles && nat_le x.birth position && nat_le x.size room

-- the first place with a namespace that there may not be; each takes its size from the room that is left
unfoldable pub bad_space : ℕ → ℕ → ℕ → List (Option Space) → Option ℕ
bad_space count position room [] = None
bad_space count position room (None ∷ xs) = option_map suc (bad_space count position room xs)
bad_space count position room (Some x ∷ xs) = if may_stand count position room x then option_map suc (bad_space count position (room - x.size) xs) else Some 0

-- the one that is there, else the other
abbrev pub or_else : Option ℕ → Option ℕ → Option ℕ
or_else None y = y
or_else (Some x) y = Some x

-- the offset of a row of a list
abbrev pub row_at : ℕ → ℕ → Option ℕ → Option ℕ
row_at first size row = option_map (λ i. first + size * i) row

-- the first row that no drive saves, by its offset, where there are so many handles: a mask with a bit of no kind, or for a handle that there is
-- not; a namespace; an event in the list of the other class
unfoldable pub bad_row : DriveConfig → ℕ → Summary → Option ℕ
bad_row c count s =
    or_else (row_at 112 1 (position has_stray_bit (take count s.masks)))
    (or_else (row_at (112 + count) 1 (position has_any_bit (drop count s.masks)))
    (or_else (row_at 128 40 (bad_space count s.totals.position (full_budget c count) s.spaces))
    (or_else (row_at 832 64 (position (λ (e : Event). not (is_host_event e)) s.host_events)) (row_at 2880 64 (position is_host_event s.controller_events)))))

-- the offset of the first field that no drive of the configuration saves so: its index, or a row
unfoldable pub bad_field : DriveConfig → Summary → Option ℕ
bad_field c s = if nat_lt s.index (length c.fdp) then bad_row c (handle_count c s.enabled s.index) s else Some 49

-- the masks are of kinds that there are, and behind so many handles they are empty
pub record AreKnownMasks (count : ℕ) (masks : List ℕ) : Type 0 where
  pub kinds : (ruh : ℕ) → slice_index masks ruh < 64
  pub absent : (ruh : ℕ) → count ≤ ruh → slice_index masks ruh ≡ 0

-- each event stands in the list of its class
pub record StandByClass (host_events controller_events : List Event) : Type 0 where
  pub host : All (λ (e : Event). IsTrue (is_host_event e)) host_events
  pub controller : All (λ (e : Event). IsTrue (not (is_host_event e))) controller_events

-- the rows of a summary are such as a drive of so many handles has: its masks and its events
pub record HasKnownRows (count : ℕ) (s : Summary) : Type 0 where
  pub masks : AreKnownMasks count s.masks
  pub events : StandByClass s.host_events s.controller_events
