-- The tables of a plain drive are sound.
use Rattle.std.proofs.Common.{◌≡◌, ℕ, ◌<◌, ◌≤◌, List, [], length, Option, None, Some, refl, sym, subst, arith}
use Rattle.std.specs.Prelude.{option_map, slice_index}
use Rattle.std.specs.Option.{IsSomeAnd, option_map_or}
use Rattle.fdp_base.specs.declared.config.DriveConfig.{DriveConfig}
use Rattle.fdp_base.specs.Config.{IsValidConfig}
use Rattle.fdp_rules.specs.PlainState.{Namespace, PlainState}
use Rattle.fdp_rules.specs.Room.{handles_in_force}
use Rattle.fdp_tables.specs.declared.state.Kept.{Kept}
use Rattle.fdp_tables.specs.Sound.{IsSound, KnowsFound}
use Rattle.fdp_tables.specs.Starts.{AreStarts}
use Rattle.fdp_tables.specs.State.{own_entries, plain_of, point_kept}
use Rattle.fdp_tables.proofs.Beginning.{each_known, few_handles}
use Rattle.fdp_history.specs.Orderly.{IsOrderly}
use Rattle.fdp_history.specs.OrderlyState.{IsOrderlyState}
use Rattle.fdp_history.specs.Summed.{IsSummed}
use Rattle.fdp_history.proofs.Starting.{birth-bound}
use Rattle.fdp_plain.specs.Rows.{HasRows}
use Rattle.fdp_plain.specs.Run.{found_of}
use Rattle.fdp_plain.specs.Telling.{TellsHistory, run_of}
use Rattle.fdp_plain.specs.Found.{StandsInOrder}
use Rattle.fdp_plain.proofs.Ordering.{in_order_legal}
use Rattle.fdp_plain.proofs.Runs.{starts_below}

-- at most sixteen handles, each below sixteen
record AreFew (handles : List ℕ) : Type 0 where
  pub number : length handles ≤ 16
  pub known : (i : ℕ) → slice_index handles i < 16

few_of : (c : DriveConfig) (s : PlainState) → IsValidConfig c → IsOrderlyState c s → (nsid : ℕ) → AreFew (option_map_or (λ (x : Namespace). x.handles) (s.namespaces nsid) [])
few_of c s valid h nsid =
    let P : Option Namespace → Type 0 = λ o. s.namespaces nsid ≡ o → AreFew (option_map_or (λ (x : Namespace). x.handles) o []) in
    elim (s.namespaces nsid) as P [
      | None ↦ λ _. record { number = omega arith; known = λ i. omega arith }
      | Some n ↦ λ e.
          let x = h.namespaces nsid n e in
          record { number = x.number.1; known = each_known (handles_in_force c s) n.handles (few_handles c valid s.enabled s.index) x.handles }
    ] refl

-- a count that is there, as a fact of the row
counted_row : {V : Type 0} (count : V → ℕ) (o : Option V) (n : ℕ) → option_map count o ≡ Some n → IsSomeAnd o (λ v. count v ≡ n)
counted_row count None n e = absurd cc
counted_row count (Some v) n e = cc

-- what the rows of the tables and the point that they say make of them
pub sound_of : (k : Kept) → IsValidConfig k.config → HasRows k → AreStarts 0 k.starts.items (length k.entries.items) → KnowsFound k → IsOrderly k.config (point_kept k) → IsSummed (point_kept k) → IsSound k
sound_of k valid rows starts known h sums =
    let few : (nsid : ℕ) → AreFew (option_map_or (λ (x : Namespace). x.handles) ((plain_of k).namespaces nsid) []) = few_of k.config (plain_of k) valid h.state in
    record {
      config = valid;
      start = starts_below 0 k.starts.items (length k.entries.items) starts;
      index = h.state.index;
      generation = h.state.generation;
      spaces = rows.spaces;
      handles = λ nsid. (few nsid).number;
      known = λ nsid i. (few nsid).known i;
      births = birth-bound k.config (plain_of k) h.state;
      reports = rows.reports;
      references = rows.references;
      going = rows.going;
      writes = λ queue g e.
          let w = h.state.writes queue g e in
          record {
            handle = w.handle;
            group = w.group;
            ticket = w.ticket.1;
            birth = w.birth;
            blocks = omega (arith, w.count.1, valid.ranges.blocks_per_command.1);
            placed = w.placed;
            pages = counted_row _ _ _ (rows.pages queue g e);
            range = w.range;
          };
      tickets = h.state.tickets;
      lost = rows.lost;
      worn = rows.worn;
      sites = rows.sites;
      found_pages = known;
      copies = rows.copies;
      host_blocks = sums.host_blocks;
      media_blocks = sums.media_blocks;
      erases = sums.erases;
    }

-- what stands is in order
pub history_in_order : (k : Kept) → TellsHistory k → StandsInOrder k.config (point_kept k)
history_in_order k h = subst (StandsInOrder k.config) (sym h.point) (in_order_legal k.config (found_of (run_of k)) (own_entries k) h.config h.begins h.legal)

-- the tables of a plain drive are sound
pub history_sound : (k : Kept) → TellsHistory k → IsSound k
history_sound k h = let order = history_in_order k h in sound_of k h.config h.rows h.starts h.known order.orderly order.summed
