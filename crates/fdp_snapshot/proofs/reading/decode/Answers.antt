use Rattle.std.proofs.Common.{◌≡◌, ◌∙◌, ap, sym, subst, arith, inl, inr, refl, length, drop, ◌-◌, List, Option, Ok, map}
use Rattle.fdp_snapshot.specs.declared.space.Space.{Space}
use Rattle.fdp_snapshot.specs.declared.state.Summary.{Summary}
use Rattle.fdp_snapshot.specs.Checkpoint.{IsBadAt, IsFilledAt}
use Rattle.fdp_snapshot.specs.Fixed.{IsSummary}
use Rattle.fdp_snapshot.specs.Reading.{page_lists, size_of_row, state_in}
use Rattle.fdp_snapshot.proofs.FixedPart.{summary_is}
use Rattle.fdp_snapshot.proofs.Judging.{cut_is_none, end_is, found_one, differing_is_none, differs, filled_is_none, one_is, same_fixed, short_is_none}
use Rattle.fdp_snapshot.proofs.StateRead.{read_is_state}
use Rattle.fdp_snapshot.proofs.reading.decode.Goals as goal

pub returns-then-bytes-lt-FIXED_SIZE-clause-exact : goal.returns-then-bytes-lt-FIXED_SIZE-clause-exact
returns-then-bytes-lt-FIXED_SIZE-clause-exact c is = absurd (short_is_none c.args.version c.args.bytes.now (omega arith) is)

pub first_difference-requires-clause-is : goal.first_difference-requires-clause-is
first_difference-requires-clause-is c = subst IsSummary (sym c.in-Ok.ensures) (summary_is c.args.bytes.now)

pub returns-in-Some-clause-exact : goal.returns-in-Some-clause-exact
returns-in-Some-clause-exact c is =
    absurd (differing_is_none c.args.version c.args.bytes.now c.in-Some.at (differs c.args.version c.args.bytes.now c.in-Ok.summary c.in-Some.at c.in-Ok.ensures (omega arith) c.in-Some.ensures) is)

pub returns-in-Some-clause-bad : goal.returns-in-Some-clause-bad
returns-in-Some-clause-bad c at e =
    let d = differs c.args.version c.args.bytes.now c.in-Ok.summary c.in-Some.at c.in-Ok.ensures (omega arith) c.in-Some.ensures in
    let same : c.in-Some.at ≡ at = cc in
    subst (IsBadAt c.args.version c.args.bytes.now) same (inr (inl d))

pub returns-in-None-end_of_blocks-clause-exact : goal.returns-in-None-end_of_blocks-clause-exact
returns-in-None-end_of_blocks-clause-exact c is =
    let size = end_is c.args.bytes.now c.in-Ok.summary c.as_slice.result.now c.as_slice.ensures c.in-Ok.ensures in
    absurd (cut_is_none c.args.version c.args.bytes.now (omega (arith, size, c.in-None-end_of_blocks.ensures.none refl)) is)

pub returns-in-None-end_of_blocks-clause-bad : goal.returns-in-None-end_of_blocks-clause-bad
returns-in-None-end_of_blocks-clause-bad c at e =
    let bytes = c.args.bytes.now in
    let size = end_is bytes c.in-Ok.summary c.as_slice.result.now c.as_slice.ensures c.in-Ok.ensures in
    let same : length bytes - 1 ≡ at = cc in
    inr (inr (inl (record {
      fixed = same_fixed c.args.version bytes c.in-Ok.summary c.in-Ok.ensures (omega arith) c.in-None.ensures;
      short = omega (arith, size, c.in-None-end_of_blocks.ensures.none refl);
      last = omega (arith, same, c.if-bytes-lt-FIXED_SIZE.false);
    })))

pub returns-in-Some-first_number-clause-exact : goal.returns-in-Some-first_number-clause-exact
returns-in-Some-first_number-clause-exact c is =
    let bytes = c.args.bytes.now in
    let size = end_is bytes c.in-Ok.summary c.as_slice.result.now c.as_slice.ensures c.in-Ok.ensures in
    let d = c.in-Some-first_number.ensures in
    absurd (filled_is_none c.args.version bytes c.in-Some-first_number.at (omega (arith, size, c.in-Some-end_of_blocks.ensures.end, d.0)) d.1 d.3 is)

pub returns-in-Some-first_number-clause-bad : goal.returns-in-Some-first_number-clause-bad
returns-in-Some-first_number-clause-bad c at e =
    let bytes = c.args.bytes.now in
    let size = end_is bytes c.in-Ok.summary c.as_slice.result.now c.as_slice.ensures c.in-Ok.ensures in
    let end = c.in-Some-end_of_blocks.ensures.end in
    let d = c.in-Some-first_number.ensures in
    let same : c.in-Some-first_number.at ≡ at = cc in
    let bad : IsFilledAt c.args.version bytes c.in-Some-first_number.at = record {
      fixed = same_fixed c.args.version bytes c.in-Ok.summary c.in-Ok.ensures (omega arith) c.in-None.ensures;
      behind = omega (arith, size, end, d.0);
      within = d.1;
      zeros_before = λ k least most. d.2 k (omega (arith, size, end, least)) most;
      here = d.3;
    } in
    subst (IsBadAt c.args.version bytes) same (inr (inr (inr bad)))

pub returns-in-Ok-read_pages-clause-told : goal.returns-in-Ok-read_pages-clause-told
unfolding state_in
returns-in-Ok-read_pages-clause-told c =
    let bytes = c.args.bytes.now in
    let spaces = c.as_slice-2.ensures ∙ ap (λ (s : Summary). s.spaces) c.in-Ok.ensures in
    let pages = c.in-Ok-read_pages.ensures ∙ ap (λ (xs : List (Option Space)). page_lists (map size_of_row xs) (drop 5120 bytes)) spaces in
    λ i. record { summary = c.in-Ok.ensures i; pages = pages i }

pub returns-in-Ok-read_pages-clause-is : goal.returns-in-Ok-read_pages-clause-is
returns-in-Ok-read_pages-clause-is c =
    let bytes = c.args.bytes.now in
    let size = end_is bytes c.in-Ok.summary c.as_slice.result.now c.as_slice.ensures c.in-Ok.ensures in
    one_is c.args.version bytes
    (found_one c.args.version bytes c.in-Some-end_of_blocks.end (same_fixed c.args.version bytes c.in-Ok.summary c.in-Ok.ensures (omega arith) c.in-None.ensures)
    (c.in-Some-end_of_blocks.ensures.end ∙ size) c.in-Some-end_of_blocks.ensures.fits c.in-None-first_number.ensures)

pub returns-in-Ok-read_pages-clause-exact : goal.returns-in-Ok-read_pages-clause-exact
unfolding state_in
returns-in-Ok-read_pages-clause-exact c is =
    let bytes = c.args.bytes.now in
    let spaces = c.as_slice-2.ensures ∙ ap (λ (s : Summary). s.spaces) c.in-Ok.ensures in
    let pages = c.in-Ok-read_pages.ensures ∙ ap (λ (xs : List (Option Space)). page_lists (map size_of_row xs) (drop 5120 bytes)) spaces in
    inl (λ i. Ok (record { summary = c.in-Ok.ensures i; pages = pages i }))

pub returns-in-Ok-read_pages-clause-writable : goal.returns-in-Ok-read_pages-clause-writable
returns-in-Ok-read_pages-clause-writable c =
    let bytes = c.args.bytes.now in
    let spaces = c.as_slice-2.ensures ∙ ap (λ (s : Summary). s.spaces) c.in-Ok.ensures in
    let pages = c.in-Ok-read_pages.ensures ∙ ap (λ (xs : List (Option Space)). page_lists (map size_of_row xs) (drop 5120 bytes)) spaces in
    read_is_state bytes _ _ c.in-Ok.ensures pages (record { below = λ k. omega (arith, c.type_inv.bytes k) })
