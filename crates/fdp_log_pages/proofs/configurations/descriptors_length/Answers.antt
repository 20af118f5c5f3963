use Rattle.std.proofs.Common.{◌≡◌, ℕ, ◌+◌, ◌<◌, List, length, take, get_or, ◌∙◌, ap, sym, arith}
use Rattle.std.specs.Prelude.{flat_map}
use Rattle.fdp_base.specs.declared.config.Class.{Class}
use Rattle.fdp_rules.specs.LogPages.{descriptor, descriptor_size}
use Rattle.fdp_log_pages.proofs.Lengths.{descriptors_next}
use Rattle.fdp_log_pages.proofs.configurations.descriptors_length.Goals as goal

pub loop-classes-preserved : goal.loop-classes-preserved
loop-classes-preserved c =
    let config = c.args.config.now in
    let all = config.fdp in
    let here : List Class = c.classes-item.result in
    let i = c.loop-classes.classes-index in
    let below : i < length all = omega (arith, c.loop-classes-test.true, ap (λ (xs : List (List Class)). length xs) c.as_slice-classes-items.ensures) in
    let is : here ≡ get_or all i here = c.classes-item.is ∙ ap (λ (xs : List (List Class)). get_or xs i here) c.as_slice-classes-items.ensures in
    let size : c.from-bytes.result ≡ descriptor_size (length (get_or all i here)) =
    c.from-bytes.ensures ∙ c.descriptor_size.ensures.value ∙ ap (λ (xs : List Class). descriptor_size (length xs)) (c.as_slice.ensures ∙ is) in
    record {
      value =
          ap (λ (n : ℕ). n + c.from-bytes.result) c.loop-classes.invariant.value
          ∙ ap (λ (n : ℕ). length (flat_map (descriptor config) (take i all)) + n) size
          ∙ sym (descriptors_next config all i here below);
      bound = omega (arith, c.loop-classes.invariant.bound, c.descriptor_size.ensures.bound, c.from-bytes.ensures);
    }
