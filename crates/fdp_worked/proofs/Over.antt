-- Each entry of the run over an image is a step after those before it.
use Rattle.std.proofs.Common.{◌≡◌, ◌≢◌, inl, inr, ℕ, ◌-◌, Bool, true, false, cond, List, [], ◌∷◌, Option, None, Some, refl, sym, ◌∙◌, subst, arith, lit<, lit≤}
use Rattle.std.specs.Prelude.{◌==◌, ◌&&◌, IfSome, IsSome, take, option_map, option_and_then, if◌then◌else◌}
use Rattle.std.proofs.lemmas.Bool.{and_parts, eqb-true}
use Rattle.fdp_base.specs.declared.command.Command.TheVariants as commands
use Rattle.fdp_base.specs.declared.entry.Entry.{Entry}
use Rattle.fdp_base.specs.declared.entry.Entry.TheVariants as entries
use Rattle.fdp_base.specs.declared.entry.Spot.{Spot}
use Rattle.fdp_base.specs.declared.payload.Payload.TheVariants.{Pattern}
use Rattle.fdp_base.specs.Numbers.{is_among, numbers_from, with_at}
use Rattle.fdp_base.specs.Pattern.{pattern_block, repeated}
use Rattle.fdp_rules.specs.Change.{after, changed_by}
use Rattle.fdp_rules.specs.Effect.{References, block_of_write, effect_of, no_reference, with_reference}
use Rattle.fdp_rules.specs.History.{block_in, first_state, found_block, point_of, state_of}
use Rattle.fdp_rules.specs.Legal.{IsLegal, IsLegalAfter}
use Rattle.fdp_rules.specs.PlainState.{Block, Going, PageName, Reference}
use Rattle.fdp_rules.specs.Refusal.{checks_of, refusal_of}
use Rattle.fdp_rules.specs.Room.{namespace_ids}
use Rattle.fdp_rules.specs.Sites.{moved_by, pass_in, site_of, traced_by, trail_of}
use Rattle.fdp_rules.specs.Step.{Follows, IsStep}
use Rattle.fdp_worked.specs.Drives.{drive_t}
use Rattle.fdp_worked.specs.FoundImage.{entries_over_image, found_at, image, spot}
use Rattle.fdp_worked.specs.Words.{done, told, write_to}

-- the entries before the n-th
abbrev before : ℕ → List Entry
before n = take n entries_over_image

abbrev read : ℕ → Entry
read number = told number (commands.Read (record { nsid = 1; slba = 0; count = 1 })) (pattern_block 512 100 0)

abbrev write : Entry
write = done 1 (write_to 1 1 1 7)

abbrev going : ℕ → Going
going placed = record { number = 1; command = write_to 1 1 1 7; ticket = 43; birth = 0; rg = 0; ruh = 0; pid_valid = true; roomiest = 1; placed = placed }

opened : IsStep true drive_t image (before 0) entries.Reopened
unfolding Follows point_of
opened = refl

read-found : IsStep true drive_t image (before 1) (read 0)
unfolding Follows point_of state_of first_state after changed_by effect_of refusal_of checks_of numbers_from repeated
read-found = record {
  queue_is = (lit≤ tt, lit≤ tt);
  formed = (lit≤ tt, lit≤ tt);
  replied = inr (inl (refl, record { status = refl; dword0 = refl; size = refl; bytes_are = λ _. refl; applied = refl }));
}

started : IsStep true drive_t image (before 2) (entries.Started (record { queue = 1; number = 1; command = write_to 1 1 1 7; rg = 0; ruh = 0; pid_valid = true }))
unfolding Follows point_of state_of first_state after changed_by effect_of refusal_of checks_of numbers_from namespace_ids
started = record {
  queue_is = (lit≤ tt, lit≤ tt);
  formed = ((lit≤ tt, lit≤ tt), tt);
  write = refl;
  accepted = refl;
  group = lit< tt;
  handle = lit< tt;
  listed = λ _. (1, lit< tt, refl);
  default = λ no. absurd cc;
}

placed : IsStep true drive_t image (before 3) (entries.Placed (record { ticket = 43; index = 0; unit = 0; page = 0 }))
unfolding Follows point_of state_of first_state after changed_by effect_of numbers_from namespace_ids
placed = record {
  queue = 1;
  going = going 0;
  queue_is = (lit≤ tt, lit≤ tt);
  going_is = refl;
  same = refl;
  there = refl;
  next = refl;
  asked = lit< tt;
  spot = (lit< tt, lit< tt);
  group = refl;
  kept = refl;
  place = (λ rg ruh some. absurd cc, refl);
}

ended : IsStep true drive_t image (before 4) write
unfolding Follows point_of state_of first_state after changed_by effect_of numbers_from namespace_ids trail_of traced_by
ended = record {
  queue_is = (lit≤ tt, lit≤ tt);
  formed = ((lit≤ tt, lit≤ tt), tt);
  replied = inl (
    going 1,
    record { going = refl; same_number = refl; same_command = refl },
    inr (inr (inl (record { there = refl; fits = refl; placed = refl; pages = λ index below. let same : 0 ≡ index = omega (arith, below) in subst (λ i. IsSome (if 0 == i then Some (spot 0 0) else None)) same refl; target = refl }, record { status = refl; dword0 = refl; size = refl; bytes_are = λ _. refl; applied = refl }))),
  );
}

-- a unit that none of these references, nor the one that takes the place of handle 0 in group 0
one-unit : (references : References) (x : Reference) (unit : ℕ) → x.unit ≢ Some unit → ((rg ruh : ℕ) → (references rg ruh).unit ≢ Some unit) → (rg ruh : ℕ) → (with_reference references 0 0 x rg ruh).unit ≢ Some unit
one-unit references x unit here there rg ruh =
    elim (rg == 0) as (λ b. (cond b (with_at (references 0) 0 x) (references rg) ruh).unit ≢ Some unit) [
      | true ↦ elim (ruh == 0) as (λ b. (cond b x (references 0 ruh)).unit ≢ Some unit) [ true ↦ here | false ↦ there 0 ruh ]
      | false ↦ there rg ruh
    ]

-- handle 0 of group 0 references unit 0, and no other handle a unit
only-unit-0 : (unit : ℕ) → 0 ≢ unit → (rg ruh : ℕ) → (with_reference (λ rg ruh. no_reference drive_t) 0 0 (record { unit = Some 0; left = 7 }) rg ruh).unit ≢ Some unit
only-unit-0 unit other =
    one-unit (λ rg ruh. no_reference drive_t) (record { unit = Some 0; left = 7 }) unit
    (λ (is : Some 0 ≡ Some unit). let same : 0 ≡ unit = cc in other same)
    (λ rg ruh (none : None ≡ Some unit). absurd cc)

copied : IsStep true drive_t image (before 5) (entries.Copied (record { from = spot 3 0; to = spot 4 0 }))
unfolding Follows point_of state_of first_state after changed_by effect_of numbers_from namespace_ids
copied = record {
  from = (lit< tt, lit< tt);
  to = (lit< tt, lit< tt);
  apart = λ same. absurd cc;
  group = refl;
  from_unreferenced = only-unit-0 3 (λ same. absurd cc);
  to_unreferenced = only-unit-0 4 (λ same. absurd cc);
}

moved : IsStep true drive_t image (before 6) (entries.Moved (record { rg = 0; blocks = record { nsid = 1; lba = 0 } ∷ [] }))
unfolding Follows point_of state_of first_state after changed_by effect_of numbers_from namespace_ids trail_of traced_by
moved = record { group = lit< tt; listed = refl }

-- not in unit 3
abbrev IsElsewhere : Option Spot → Type 0
IsElsewhere site = IfSome site (λ (x : Spot). x.unit ≢ 3)

-- block 1 lies where the write wrote
written-there : (nsid lba : ℕ) → (1 == nsid && 1 == lba) ≡ true → (nsid == 1 && is_among 1 1 lba) ≡ true
written-there nsid lba is =
    let parts = and_parts (1 == nsid) (1 == lba) is in
    subst (λ n. (n == 1 && is_among 1 1 lba) ≡ true) (eqb-true 1 nsid parts.0) (subst (λ i. (1 == 1 && is_among 1 1 i) ≡ true) (eqb-true 1 lba parts.1) refl)

-- block 0 was moved to unit 4, and block 1 was written anew in unit 0
nothing-left : (nsid lba : ℕ) → IsElsewhere (site_of (point_of drive_t image (before 7)) nsid lba)
unfolding point_of state_of first_state after changed_by effect_of numbers_from namespace_ids trail_of traced_by
nothing-left nsid lba =
    let site : PageName → Option Spot = (point_of drive_t image (before 7)).trail.site in
    let found_blocks : Option Block = block_in image.blocks nsid lba in
    let P : Bool → Type 0 = λ b. (nsid == 1 && is_among 1 1 lba) ≡ b → IsElsewhere (option_and_then (λ (x : Block). site x.page) (cond b (option_map (block_of_write drive_t 1 (Pattern 7) lba) (Some (going 1))) found_blocks)) in
    elim (nsid == 1 && is_among 1 1 lba) as P [
      | true ↦ λ _. elim (0 == lba - 1) as (λ b. IsElsewhere (option_map (moved_by (pass_in (point_of drive_t image (before 6)).trail 0)) (cond b (Some (spot 0 0)) None))) [ true ↦ λ same. absurd cc | false ↦ tt ]
      | false ↦ λ elsewhere.
          elim (1 == nsid && 0 == lba) as (λ b. IsElsewhere (option_and_then (λ (x : Block). site x.page) (option_map found_block (cond b (Some (found_at 0 100 0)) (cond (1 == nsid && 1 == lba) (Some (found_at 1 101 1)) None))))) [
            | true ↦ λ same. absurd cc
            | false ↦
                let Q : Bool → Type 0 = λ b. (1 == nsid && 1 == lba) ≡ b → IsElsewhere (option_and_then (λ (x : Block). site x.page) (option_map found_block (cond b (Some (found_at 1 101 1)) None))) in
                elim (1 == nsid && 1 == lba) as Q [ true ↦ λ is. let no : true ≡ false = sym (written-there nsid lba is) ∙ elsewhere in absurd cc | false ↦ λ _. tt ] refl
          ]
    ] refl

erased : IsStep true drive_t image (before 7) (entries.Erased (record { unit = 3 }))
unfolding Follows point_of state_of first_state after changed_by effect_of numbers_from namespace_ids trail_of traced_by
erased = record { data_unit = lit< tt; unreferenced = only-unit-0 3 (λ same. absurd cc); kept = refl; empty = nothing-left }

read-again : IsStep true drive_t image (before 8) (read 2)
unfolding Follows point_of state_of first_state after changed_by effect_of refusal_of checks_of numbers_from repeated
read-again = record {
  queue_is = (lit≤ tt, lit≤ tt);
  formed = (lit≤ tt, lit≤ tt);
  replied = inr (inl (refl, record { status = refl; dword0 = refl; size = refl; bytes_are = λ _. refl; applied = refl }));
}

pub image-legal : IsLegal true drive_t image entries_over_image
unfolding IsLegalAfter
image-legal = (opened, (read-found, (started, (placed, (ended, (copied, (moved, (erased, (read-again, tt)))))))))
