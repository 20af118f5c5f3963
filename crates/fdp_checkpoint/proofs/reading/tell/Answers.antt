use Rattle.std.proofs.Common.{◌∙◌, ◌+◌, ◌-◌, ◌/◌, ◌<◌, ◌≤◌, ap, refl, subst, arith, inl, inr, length, ℕ, Err}
use Rattle.fdp_flash.specs.Layout.{first_page}
use Rattle.fdp_image.specs.Areas.{area_unit}
use Rattle.fdp_snapshot.specs.declared.state.Summary.{Summary}
use Rattle.fdp_snapshot.specs.Checkpoint.{checkpoint_size}
use Rattle.fdp_checkpoint.proofs.Telling.{area_bytes, bad_within, size_least, some_pages, state_fits, summary_told}
use Rattle.fdp_checkpoint.proofs.reading.tell.Goals as goal

pub page_with-requires-clause-small : goal.page_with-requires-clause-small
page_with-requires-clause-small c =
    let bytes = c.args.bytes.now in
    let version = c.args.seal.now.stamp.version in
    let bad = c.in-Err-At.ensures.bad c.in-Err-At.at (ap Err c.in-Err-At.field-0-is) in
    omega (arith, bad_within version bytes c.in-Err-At.at bad, area_bytes c.args.geometry c.args.seal.now.checkpoint (length bytes) c.requires.valid (grind arith) c.requires.within c.requires.size, c.in-Err-At.at-is)

pub returns-in-Err-At-clause-told : goal.returns-in-Err-At-clause-told
returns-in-Err-At-clause-told c =
    let bad = c.in-Err-At.ensures.bad c.in-Err-At.at (ap Err c.in-Err-At.field-0-is) in
    record {
      number = c.in-Err-At.at / c.args.geometry.block;
      place = c.page_with.ensures ∙ ap (λ (n : ℕ). first_page c.args.geometry (area_unit c.args.geometry c.args.area) + n / c.args.geometry.block) c.in-Err-At.at-is;
      bad = record { shown = inl (c.in-Err-At.at, refl, bad) };
    }

pub is_overlong-requires-clause-fits : goal.is_overlong-requires-clause-fits
is_overlong-requires-clause-fits c = state_fits c.args.seal.now.stamp.version c.in-Ok.state c.args.bytes.now c.in-Ok.ensures.told c.in-Ok.ensures.is

pub returns-then-is_overlong-clause-told : goal.returns-then-is_overlong-clause-told
returns-then-is_overlong-clause-told c =
    let bytes = c.args.bytes.now in
    let pages = c.args.seal.now.checkpoint in
    let summary = summary_told c.in-Ok.state bytes c.in-Ok.ensures.told in
    let long = c.is_overlong.ensures.long c.if-is_overlong.true in
    record {
      number = pages - 1;
      place = ap (λ (n : ℕ). n + (pages - 1)) c.first_of_area.ensures.value;
      bad = record {
        shown = inr (record {
          whole = c.in-Ok.ensures.is;
          long = subst (λ (s : Summary). checkpoint_size s + c.args.geometry.block ≤ length bytes) summary long;
          last = some_pages pages c.args.geometry.block (length bytes) (checkpoint_size c.in-Ok.state.summary) c.requires.size (size_least c.in-Ok.state.summary) long;
        });
      };
    }

pub returns-clause-told : goal.returns-clause-told
returns-clause-told c =
    let bytes = c.args.bytes.now in
    record {
      whole = c.in-Ok.ensures.is;
      state = c.in-Ok.ensures.told;
      filled = subst (λ (s : Summary). length bytes < checkpoint_size s + c.args.geometry.block) (summary_told c.in-Ok.state bytes c.in-Ok.ensures.told) (c.is_overlong.ensures.short c.if-is_overlong.false);
    }

pub returns-clause-holds : goal.returns-clause-holds
returns-clause-holds c = state_fits c.args.seal.now.stamp.version c.in-Ok.state c.args.bytes.now c.in-Ok.ensures.told c.in-Ok.ensures.is
