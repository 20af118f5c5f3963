-- What a flash counted, by the entries of its drive.
use Rattle.std.specs.Prelude.{◌≡◌, ◌≤◌, IsTrue, List, count_by}
use Rattle.std.specs.List.{list_any}
use Rattle.fdp_base.specs.declared.entry.Entry.{Entry}
use Rattle.fdp_base.specs.Counts.{Rose}
use Rattle.fdp_base.specs.EntryKinds.{is_shut, loses_unit, wears_group}
use Rattle.fdp_calls.specs.Calls.{counted_more}
use Rattle.fdp_flash.specs.FlashState.{FlashState}
use Rattle.fdp_rules.specs.Totals.{media_blocks}
use Rattle.fdp_ledger.specs.declared.counts.Counts.{Counts}
use Rattle.fdp_ledger.specs.Told.{is_media_reply}
use Rattle.fdp_ledger.specs.Start.{KnowsUnits}
use Rattle.fdp_ledger.specs.Uses.{RunStart, idle_erases}
use Rattle.fdp_ledger.specs.WornOut.{WereWornOut}

-- what a flash has counted
abbrev pub counts_of : FlashState → Counts
counts_of flash = record { moment = flash.moment; faults = flash.faults; programs = flash.programs }

-- What a flash counted since it was handed in for a run: as many programs as pages were placed or copied; at least as many
-- faults as replies tell of a media error, as handles were shut, as units were lost, and, where it is known which units had a page when
-- the run began, as erases were idle; and one at least where a group was worn in a run that began fresh. Where that is known, each group that was worn was worn out:
-- as many faults were counted as it had units without a page then, and programs had failed in each of these.
pub record CountedSince (handed : Counts) (now : FlashState) (start : RunStart) (es : List Entry) : Type 0 where
  pub moment : handed.moment ≤ now.moment
  pub programs : now.programs ≡ counted_more handed.programs (media_blocks es)
  pub media_replies : counted_more handed.faults (count_by is_media_reply es) ≤ now.faults
  pub shut : counted_more handed.faults (count_by is_shut es) ≤ now.faults
  pub lost : counted_more handed.faults (count_by loses_unit es) ≤ now.faults
  pub idle : KnowsUnits now.told start → counted_more handed.faults (idle_erases start es) ≤ now.faults
  pub worn : IsTrue start.fresh → IsTrue (list_any wears_group es) → Rose handed.faults now.faults
  pub worn_out : KnowsUnits now.told start → WereWornOut handed now start es
