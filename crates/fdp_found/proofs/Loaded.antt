-- A run can begin with a loaded state, and with a fresh drive.
use Rattle.std.proofs.Common.{◌≡◌, ℕ, ◌≤◌, Bool, false, List, [], ◌∷◌, Option, Some, None, refl, sym, ◌∙◌, ap, arith}
use Rattle.std.specs.Prelude.{◌^◌, IsTrue, if◌then◌else◌, is_some, nat_le, nat_lt, take}
use Rattle.std.specs.List.{list_all, list_any}
use Rattle.std.proofs.lemmas.Bool.{and_parts, leb-false, ltb-true, or_parts}
use Rattle.std.proofs.lemmas.Bool.Decides.{nat_tests}
use Rattle.std.proofs.lemmas.List.Elements.{All-nil}
use Rattle.fdp_base.specs.declared.config.DriveConfig.{DriveConfig}
use Rattle.fdp_base.specs.Config.{IsValidConfig}
use Rattle.fdp_base.specs.Placement.{geometry_of}
use Rattle.fdp_flash.specs.declared.cell.Cell.{Cell}
use Rattle.fdp_found.specs.Beginning.{CanBegin, IsUnspent}
use Rattle.fdp_history.proofs.Fresh.{orderly-fresh}
use Rattle.fdp_history.proofs.Listing.{listed-fresh}
use Rattle.fdp_history.specs.OrderlyState.{IsOrderlyState}
use Rattle.fdp_image.specs.Areas.{Sealed, current_area, data_pages}
use Rattle.fdp_image.specs.Checkpoint.{reading_of_state}
use Rattle.fdp_image.specs.CheckpointRows.{is_namespace_id}
use Rattle.fdp_image.specs.Outline.{state_with}
use Rattle.fdp_image.specs.Reading.{Reading}
use Rattle.fdp_image.specs.Reads.{fresh_reading, is_blank, is_spent, reads_as, said_by_current}
use Rattle.fdp_image.specs.StandsFor.{IsFoundIn, Says}
use Rattle.fdp_image.specs.Valid.{GoOneWay, IsValid, state_in}
use Rattle.fdp_opening.specs.fdp_recovery.Opened.{CanGoOn}
use Rattle.fdp_rules.specs.Events.{kept_from}
use Rattle.fdp_rules.specs.History.{controller_events_of, events_of, first_state, fresh, host_events_of, point_of, state_of, totals_of}
use Rattle.fdp_snapshot.specs.declared.state.State.{State}

-- ---- a loaded state

unspent-of : (r : Reading) (epoch : ℕ) → is_spent r epoch ≡ false → IsUnspent r
unspent-of r epoch none =
    let both = or_parts (list_any (nat_le (2 ^ 62)) (r.totals.position ∷ epoch ∷ r.totals.host_blocks ∷ r.totals.media_blocks ∷ r.totals.erases ∷ [])) (nat_le (2 ^ 31) r.generation) none in
    let position = or_parts (nat_le (2 ^ 62) r.totals.position) (list_any (nat_le (2 ^ 62)) (epoch ∷ r.totals.host_blocks ∷ r.totals.media_blocks ∷ r.totals.erases ∷ [])) both.0 in
    let first = or_parts (nat_le (2 ^ 62) epoch) (list_any (nat_le (2 ^ 62)) (r.totals.host_blocks ∷ r.totals.media_blocks ∷ r.totals.erases ∷ [])) position.1 in
    let host = or_parts (nat_le (2 ^ 62) r.totals.host_blocks) (list_any (nat_le (2 ^ 62)) (r.totals.media_blocks ∷ r.totals.erases ∷ [])) first.1 in
    let media = or_parts (nat_le (2 ^ 62) r.totals.media_blocks) (list_any (nat_le (2 ^ 62)) (r.totals.erases ∷ [])) host.1 in
    let erases = or_parts (nat_le (2 ^ 62) r.totals.erases) false media.1 in
    record {
      position = leb-false (2 ^ 62) r.totals.position position.0;
      host_blocks = leb-false (2 ^ 62) r.totals.host_blocks host.0;
      media_blocks = leb-false (2 ^ 62) r.totals.media_blocks media.0;
      erases = leb-false (2 ^ 62) r.totals.erases erases.0;
      generation = leb-false (2 ^ 31) r.generation both.1;
    }

begins : (c : DriveConfig) (s : State) (area epoch : ℕ) → CanGoOn c s area epoch → IsUnspent (reading_of_state s) → CanBegin (reading_of_state s)
unfolding reading_of_state
begins c s area epoch can unspent = record {
  handles = λ ruh kind yes. ltb-true ruh 16 (and_parts (nat_lt ruh 16) _ yes).0;
  host_events = can.state.writable.summary.host_count;
  controller_events = can.state.writable.summary.controller_count;
  unspent = unspent;
}

pub loaded-begins : (c : DriveConfig) (s : State) (area epoch : ℕ) → CanGoOn c s area epoch → CanBegin (reading_of_state s)
loaded-begins c s area epoch can = begins c s area epoch can (unspent-of (reading_of_state s) epoch can.unspent)

-- ---- a fresh drive

among : (nsid : ℕ) → 1 ≤ nsid → nsid ≤ 16 → IsTrue (is_namespace_id nsid)
among nsid low high = grind (arith, nat_tests)

pub fresh-valid : (c : DriveConfig) (cells : List Cell) → IsValidConfig c → IsValid c cells (fresh_reading c)
unfolding fresh_reading fresh first_state state_with point_of state_of
fresh-valid c cells config =
    let orderly : IsOrderlyState c (first_state c (fresh c)) = (orderly-fresh c config).state in
    let listed = listed-fresh c config in
    record {
      index = config.ranges.index;
      identifiers = λ nsid x there. let n = orderly.namespaces nsid x there in among nsid n.identifier.0 n.identifier.1;
      namespaces = λ nsid x there.
          let n = orderly.namespaces nsid x there in
          record { some_blocks = n.size; list = record { number = (n.number.0, omega (arith, n.number.1)); known = n.handles; distinct = listed.handles nsid x there }; born = n.birth };
      room = listed.room;
      blocks = λ nsid lba page there. absurd cc;
      apart = λ nsid lba other_nsid other_lba page there other. absurd cc;
    }

fresh-says : (c : DriveConfig) (cells : List Cell) → Says c (fresh c) cells [] (fresh_reading c)
unfolding fresh_reading fresh first_state state_in state_with state_of totals_of events_of host_events_of controller_events_of kept_from
fresh-says c cells = record { shows = record { lasting_part = refl; host_events = refl; controller_events = refl }; totals = refl }

fresh-reads : (c : DriveConfig) (cells : List Cell) → current_area (geometry_of c) cells ≡ None → IsTrue (list_all is_blank (take (data_pages (geometry_of c)) cells)) → reads_as c cells ≡ Some (fresh_reading c)
unfolding reads_as said_by_current
fresh-reads c cells none blank = ap (said_by_current c cells) none ∙ ap (λ (b : Bool). if b then Some (fresh_reading c) else None) blank

fresh-ways : (c : DriveConfig) (cells : List Cell) → GoOneWay c cells (fresh_reading c)
unfolding fresh_reading
fresh-ways c cells nsid lba page other_nsid other_lba other x y at there unit read-x read-y apart = absurd cc

pub fresh-found : (c : DriveConfig) (cells : List Cell) → IsValidConfig c → current_area (geometry_of c) cells ≡ None → IsTrue (list_all is_blank (take (data_pages (geometry_of c)) cells)) → IsFoundIn c cells (fresh c)
unfolding fresh
fresh-found c cells config none blank = record {
  stands = record { reading = fresh_reading c; read = fresh-reads c cells none blank; valid = fresh-valid c cells config; ways = fresh-ways c cells; says = fresh-says c cells };
  spots = All-nil _;
  is_image = sym (ap (λ (o : Option (ℕ × Sealed)). is_some o) none);
}
