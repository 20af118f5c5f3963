use Rattle.std.proofs.Common.{◌≡◌, ◌∙◌, ◌*◌, ◌≤◌, length, sym, subst, ap, List, ℕ}
use Rattle.std.specs.Prelude.{IfOk}
use Rattle.std.specs.List.{concat}
use Rattle.fdp_base.specs.declared.config.Geometry.{Geometry}
use Rattle.fdp_image.specs.Areas.{area_of}
use Rattle.fdp_records.specs.declared.spare.Stamp.{Stamp}
use Rattle.fdp_snapshot.specs.Checkpoint.{checkpoint_size}
use Rattle.fdp_checkpoint.specs.Pages.{TellsBytes}
use Rattle.fdp_checkpoint.proofs.Collecting.{sealed_count, sealed_pages, sealed_stamp}
use Rattle.fdp_checkpoint.proofs.reading.read_content.Goals as goal

pub collect-requires-clause-pages : goal.collect-requires-clause-pages
collect-requires-clause-pages g c told = sealed_count _ _ c.args.area _ c.args.seal.now c.geometry-geometry.ensures.value (c.requires.sealed told)

pub returns-in-Ok-clause-told : goal.returns-in-Ok-clause-told
returns-in-Ok-clause-told g c told z sealed =
    let s = g.F.Flash.state c.args.flash.now in
    let x = c.args.seal.now in
    let is = c.requires.sealed told in
    let pages = sealed_pages c.geometry-geometry.result s.geometry c.args.area s.cells x z c.geometry-geometry.ensures.value is sealed in
    let bytes : c.as_slice.result.now ≡ concat z.checkpoint = c.as_slice.ensures ∙ c.in-Ok.ensures.bytes told ∙ ap concat (sym pages) in
    let version : x.stamp.version ≡ z.stamp.version = ap (λ (t : Stamp). t.version) (sym (sealed_stamp (area_of s.geometry c.args.area s.cells) x z is sealed)) in
    subst (λ (h : Geometry). TellsBytes h c.args.area z.stamp.version (concat z.checkpoint) c.tell.result) c.geometry-geometry.ensures.value
    (subst (λ (v : ℕ). TellsBytes c.geometry-geometry.result c.args.area v (concat z.checkpoint) c.tell.result) version
    (subst (λ (bs : List ℕ). TellsBytes c.geometry-geometry.result c.args.area x.stamp.version bs c.tell.result) bytes c.tell.ensures.told))

pub returns-in-Ok-clause-holds : goal.returns-in-Ok-clause-holds
returns-in-Ok-clause-holds g c =
    let size : length c.as_slice.result.now ≡ c.args.seal.now.checkpoint * (g.F.Flash.state c.args.flash.now).geometry.block =
    ap length c.as_slice.ensures ∙ c.in-Ok.ensures.long ∙ ap (λ (h : Geometry). c.args.seal.now.checkpoint * h.block) c.geometry-geometry.ensures.value in
    subst (λ (n : ℕ). IfOk c.tell.result (λ s. checkpoint_size s.summary ≤ n)) size c.tell.ensures.holds
