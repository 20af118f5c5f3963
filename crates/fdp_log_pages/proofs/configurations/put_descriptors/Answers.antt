use Rattle.std.proofs.Common.{◌≡◌, ℕ, ◌+◌, ◌<◌, List, length, take, get_or, ◌∙◌, ap, sym, subst, arith}
use Rattle.std.specs.Prelude.{flat_map}
use Rattle.fdp_base.specs.declared.config.Class.{Class}
use Rattle.fdp_rules.specs.LogPages.{descriptor, descriptor_size}
use Rattle.fdp_pieces.specs.Parts.{PutsPiece}
use Rattle.fdp_pieces.proofs.Putting.{puts_next}
use Rattle.fdp_log_pages.proofs.Lengths.{descriptors_next}
use Rattle.fdp_log_pages.proofs.configurations.put_descriptors.Goals as goal

pub loop-classes-preserved : goal.loop-classes-preserved
loop-classes-preserved c =
    let config = c.args.config.now in
    let offset = c.args.offset in
    let all = config.fdp in
    let here : List Class = c.classes-item.result in
    let i = c.loop-classes.classes-index in
    let mid = c.loop-classes.into in
    let new = c.put_descriptor.new.into in
    let before : ℕ = length (flat_map (descriptor config) (take i all)) in
    let below : i < length all = omega (arith, c.loop-classes-test.true, ap (λ (xs : List (List Class)). length xs) c.as_slice-classes-items.ensures) in
    let is : here ≡ get_or all i here = c.classes-item.is ∙ ap (λ (xs : List (List Class)). get_or xs i here) c.as_slice-classes-items.ensures in
    let size : c.from-at.result ≡ descriptor_size (length (get_or all i here)) =
    c.from-at.ensures ∙ c.descriptor_size.ensures.value ∙ ap (λ (xs : List Class). descriptor_size (length xs)) (c.as_slice-in-loop-classes.ensures ∙ is) in
    let piece : PutsPiece offset (16 + before) (descriptor config (get_or all i here)) mid new =
    subst (λ (at : ℕ). PutsPiece offset at (descriptor config (get_or all i here)) mid new) c.loop-classes.invariant.place
    (subst (λ (classes : List Class). PutsPiece offset c.loop-classes.at (descriptor config classes) mid new) (c.as_slice.ensures ∙ is) c.put_descriptor.ensures) in
    record {
      puts = puts_next offset 16 (descriptor config) all i here c.args.into.now mid new below c.loop-classes.invariant.puts piece;
      place = omega (arith, c.loop-classes.invariant.place, size, descriptors_next config all i here below);
      bound = omega (arith, c.loop-classes.invariant.bound, c.descriptor_size.ensures.bound, c.from-at.ensures);
    }
