-- `print_outputs` is safe: what is printed lies in the buffers.
use Rattle.salvage.proofs.Prefix.{kept-size, named-size, kept-prefix, named-prefix}
use native.Mathlib.Omega.{arith}
use Rattle.salvage.proofs.print_outputs.Goals as goal

pub slice_bounds-kept-end : goal.slice_bounds-kept-end
slice_bounds-kept-end g c = omega (
  arith,
  kept-size c.args.file.now
      c.file_buffer-kept.result c.named_buffer-named.result
      c.salvage-s.result c.salvage-s.ensures.value,
  c.file_buffer-kept.ensures,
)

pub slice_bounds-write_all-end : goal.slice_bounds-write_all-end
slice_bounds-write_all-end g c = kept-prefix c.args.file.now
    c.file_buffer-kept.result
    c.named_buffer-named.result c.salvage-s.result
    c.salvage-s.ensures.value c.salvage-s.ensures.kept_after

pub slice_bounds-named-end : goal.slice_bounds-named-end
slice_bounds-named-end g c = omega (
  arith,
  named-size c.args.file.now
      c.file_buffer-kept.result
      c.named_buffer-named.result c.salvage-s.result
      c.salvage-s.ensures.value,
  c.named_buffer-named.ensures,
)

pub slice_bounds-write_all-end-2 : goal.slice_bounds-write_all-end-2
slice_bounds-write_all-end-2 g c = named-prefix c.args.file.now
    c.file_buffer-kept.result
    c.named_buffer-named.result c.salvage-s.result
    c.salvage-s.ensures.value c.salvage-s.ensures.named_after
