-- The pages that savings take of the system area, and that checkpoints leave there.
use Rattle.std.proofs.Common.{◌≡◌, ℕ, suc, ◌+◌, ◌-◌, ◌<◌, ◌≤◌, Bool, true, false, ◌&&◌, List, [], ◌∷◌, Option, Some, None, length, refl, sym, ap, arith, leb-true, ltb-true}
use Rattle.std.specs.Prelude.{◌*◌, drop, if◌then◌else◌, nat_le, nat_lt, not, option_map, position, take}
use Rattle.fdp_base.specs.declared.config.DriveConfig.{DriveConfig}
use Rattle.fdp_base.specs.declared.config.Geometry.{Geometry}
use Rattle.fdp_base.specs.declared.event.Event.{Event}
use Rattle.fdp_base.specs.Config.{IsValidConfig}
use Rattle.fdp_base.specs.Geometry.{IsWithin, area_pages}
use Rattle.fdp_base.specs.Placement.{full_budget, geometry_of, handle_count, most_blocks}
use Rattle.fdp_image.specs.BadFields.{bad_field, bad_row, bad_space, has_any_bit, has_stray_bit, may_stand, or_else, row_at}
use Rattle.fdp_image.specs.Fits.{is_handle_list}
use Rattle.fdp_image.specs.Replacing.{pages_for}
use Rattle.fdp_keeper.specs.fdp_journal.JournalState.{JournalState}
use Rattle.fdp_keeper.specs.fdp_saving.declared.saved.Saved.{Saved}
use Rattle.fdp_keeper.specs.fdp_saving.declared.saved.Saved.TheVariants as answers
use Rattle.fdp_keeper.specs.fdp_saving.Saver.{after_checkpoint, after_renewal, after_saving, needs_checkpoint, renewed}
use Rattle.fdp_keeper.specs.fdp_saving.Saving.{IsOfDrive}
use Rattle.fdp_keeper.proofs.Given.{budgets-fall}
use Rattle.fdp_keeper.proofs.fdp_saving.Room.{checkpoint_room}
use Rattle.fdp_flash.specs.declared.answer.Wrote.{Wrote}
use Rattle.fdp_flash.specs.declared.answer.Wrote.TheVariants as wrote
use Rattle.fdp_loading.specs.JournalRoom.{savings_left}
use Rattle.fdp_rules.specs.Events.{is_host_event}
use Rattle.fdp_snapshot.specs.declared.space.Space.{Space}
use Rattle.fdp_snapshot.specs.declared.state.State.{State}
use Rattle.fdp_snapshot.specs.declared.state.Summary.{Summary}
use Rattle.fdp_snapshot.specs.Reading.{blocks_in}

-- ---- a drive that may be saved has few blocks

unmapped : (f : ℕ → ℕ) (o : Option ℕ) → option_map f o ≡ None → o ≡ None
unmapped f None h = refl
unmapped f (Some x) h = absurd cc

third-of : (a b c d : Option ℕ) → or_else a (or_else b (or_else c d)) ≡ None → c ≡ None
third-of None None None d h = refl
third-of (Some x) b c d h = absurd cc
third-of None (Some x) c d h = absurd cc
third-of None None (Some x) d h = absurd cc

and-both : (a b : Bool) → (a && b) ≡ true → (a ≡ true) × (b ≡ true)
and-both true b h = (refl, h)
and-both false b h = absurd cc

spaces-few : (count position room : ℕ) (xs : List (Option Space)) → bad_space count position room xs ≡ None → blocks_in xs ≤ room
unfolding bad_space blocks_in
spaces-few count position room [] h = omega arith
spaces-few count position room (None ∷ xs) h = let rest = spaces-few count position room xs (unmapped suc (bad_space count position room xs) h) in omega (arith, rest)
spaces-few count position room (Some x ∷ xs) h = cases (may_stand count position room x) refl h (λ none. spaces-few count position (room - x.size) xs none) where
  cases : (b : Bool) → may_stand count position room x ≡ b → (if b then option_map suc (bad_space count position (room - x.size) xs) else Some 0) ≡ None → (bad_space count position (room - x.size) xs ≡ None → blocks_in xs ≤ room - x.size) → x.size + blocks_in xs ≤ room
  cases true may none more =
      let fits : x.size ≤ room = leb-true x.size room (and-both (is_handle_list count x.handles && nat_le x.birth position) (nat_le x.size room) may).1 in
      let rest = more (unmapped suc (bad_space count position (room - x.size) xs) none) in
      omega (arith, fits, rest)
  cases false may none more = absurd cc

row-few : (c : DriveConfig) (count : ℕ) (s : Summary) → bad_row c count s ≡ None → blocks_in s.spaces ≤ full_budget c count
unfolding bad_row
row-few c count s h =
    let spaces : option_map (λ i. 128 + 40 * i) (bad_space count s.totals.position (full_budget c count) s.spaces) ≡ None = third-of
    (row_at 112 1 (position has_stray_bit (take count s.masks)))
    (row_at (112 + count) 1 (position has_any_bit (drop count s.masks)))
    (row_at 128 40 (bad_space count s.totals.position (full_budget c count) s.spaces))
    (or_else (row_at 832 64 (position (λ (e : Event). not (is_host_event e)) s.host_events)) (row_at 2880 64 (position is_host_event s.controller_events)))
    h in
    spaces-few count s.totals.position (full_budget c count) s.spaces (unmapped (λ i. 128 + 40 * i) (bad_space count s.totals.position (full_budget c count) s.spaces) spaces)

saved-few : (c : DriveConfig) (s : Summary) → IsValidConfig c → bad_field c s ≡ None → blocks_in s.spaces ≤ most_blocks c
unfolding bad_field
saved-few c s valid h = cases (nat_lt s.index (length c.fdp)) refl h where
  some : (enabled : Bool) → s.index < length c.fdp → IsWithin 1 16 (handle_count c enabled s.index)
  some true below = valid.ranges.handles s.index [] below
  some false below = (omega arith, omega arith)

  cases : (b : Bool) → nat_lt s.index (length c.fdp) ≡ b → (if b then bad_row c (handle_count c s.enabled s.index) s else Some 49) ≡ None → blocks_in s.spaces ≤ most_blocks c
  cases true low none =
      let few = row-few c (handle_count c s.enabled s.index) s none in
      let most = budgets-fall c (handle_count c s.enabled s.index) (some s.enabled (ltb-true s.index (length c.fdp) low)).0 in
      omega (arith, few, most)
  cases false low none = absurd cc

-- a checkpoint of it leaves pages for sixteen changes
pub checkpoint-leaves : (c : DriveConfig) (s : JournalState) (given : State) → IsValidConfig c → IsOfDrive c s given → suc (pages_for s.geometry.block given.summary) + 16 ≤ area_pages (geometry_of c)
checkpoint-leaves c s given valid is =
    let room = checkpoint_room c given.summary valid (saved-few c given.summary valid is.saved.fields) in
    let block : pages_for s.geometry.block given.summary ≡ pages_for c.block given.summary = ap (λ (g : Geometry). pages_for g.block given.summary) (sym is.geometry) in
    omega (arith, room, block)

-- ---- what is left behind a saving

module _ (c : DriveConfig) (s : JournalState) (given : State) (valid : IsValidConfig c) (is : IsOfDrive c s given) (n : ℕ) (was : 16 ≤ savings_left c s + n) where
  renewed-left : (wanted : Bool) → 16 ≤ savings_left c (renewed wanted s given.summary) + n
  renewed-left true = let room = checkpoint-leaves c s given valid is in omega (arith, room)
  renewed-left false = was

  -- of a change, which takes one page where it is done
  pub saved-left : (answer : Saved) → 16 ≤ savings_left c (after_saving s given.summary answer) + (n + 1)
  saved-left answers.Done = let before = renewed-left (needs_checkpoint s) in omega (arith, before)
  saved-left (answers.Doubtful moment) = let before = renewed-left (needs_checkpoint s) in omega (arith, before)
  saved-left (answers.Unsaved moment) = omega (arith, was)

  -- of the whole drive
  pub written-left : (answer : Wrote) → 16 ≤ savings_left c (after_checkpoint s given.summary answer) + n
  written-left wrote.Done = let room = checkpoint-leaves c s given valid is in omega (arith, room)
  written-left wrote.Failed = was

  pub settled-left : (wanted : Bool) (answer : Wrote) → 16 ≤ savings_left c (after_renewal wanted s given.summary answer) + n
  settled-left wanted wrote.Done = renewed-left wanted
  settled-left wanted wrote.Failed = was
