-- `salvage::keep_labels` meets its contract. Assumes nothing.
use mathlib.Core.Path.{◌≡◌, ◌∙◌, sym, ap}
use mathlib.Core.List.{List, ◌++◌}
use Prim.Native.Nat.{ℕ, ◌*◌, ◌≤◌}
use native.Mathlib.Omega.{arith}
use lib.ListN.{length, take, drop}
use lib.Seq.{length-take-le}
use Rattle.label.specs.Layout.{label_size}
use Rattle.trailer.specs.Trailer.{distance_back}
use Rattle.trailer.specs.declared.Counts.{Counts}
use Rattle.trailer.specs.declared.Form.TheVariants.{Bytes24}
use Rattle.salvage.specs.Salvage.{kept_labels, kept_counts}
use Rattle.salvage.proofs.Written.{counts_kept, kept_number, kept_few, kept_within, output_refused_lem, salvaged}
use Rattle.salvage.proofs.keep_labels.Goals as goal
use Rattle.salvage.proofs.keep_labels.Goals.{After-count_labels-counts, Else-output-distance_back}

-- the counts are those of the labels kept
counts_are : (c : After-count_labels-counts) → c.count_labels-counts.result ≡ kept_counts c.args.body.now
counts_are c = counts_kept _ c.whole_labels-whole.ensures c.count_labels-counts.ensures

number_is : (c : After-count_labels-counts) → c.count_labels-counts.result.labels ≡ kept_labels c.args.body.now
number_is c = ap (λ (x : Counts). x.labels) (counts_are c) ∙ kept_number _

pub returns-then-output-distance_back : goal.returns-then-output-distance_back
returns-then-output-distance_back c =
    output_refused_lem _ _ (omega (arith, c.if-output-distance_back.true, c.distance_back.ensures, number_is (goal.at.returns-then-output-distance_back c).After-count_labels-counts))

-- the labels kept lie within the bytes given
within : (c : After-count_labels-counts) → label_size * c.count_labels-counts.result.labels ≤ length c.args.body.now
within c = omega (arith, number_is c, kept_within c.args.body.now)

enough : (c : Else-output-distance_back) → distance_back Bytes24 (kept_labels c.args.body.now) ≤ length c.args.output.now
enough c = omega (arith, c.if-output-distance_back.false, c.distance_back.ensures, number_is (goal.at.Else-output-distance_back c).After-count_labels-counts)

-- the part of the output that the labels go to
part_length : (c : Else-output-distance_back) → let size = label_size * c.count_labels-counts.result.labels in length (take size c.args.output.now) ≡ size
part_length c =
    length-take-le _ c.args.output.now (omega (arith, enough c, number_is (goal.at.Else-output-distance_back c).After-count_labels-counts))

pub slice_bounds-copy_from_slice-end-2 : goal.slice_bounds-copy_from_slice-end-2
slice_bounds-copy_from_slice-end-2 c = sym (part_length (goal.at.slice_bounds-copy_from_slice-end-2 c).Else-output-distance_back)

pub slice_bounds-copy_from_slice-end-3 : goal.slice_bounds-copy_from_slice-end-3
slice_bounds-copy_from_slice-end-3 c =
    sym (length-take-le _ c.args.body.now (within (goal.at.slice_bounds-copy_from_slice-end-3 c).After-count_labels-counts))

pub copy_from_slice-requires : goal.copy_from_slice-requires
copy_from_slice-requires c =
    part_length (goal.at.copy_from_slice-requires c).Else-output-distance_back
    ∙ sym (length-take-le _ c.args.body.now (within (goal.at.copy_from_slice-requires c).After-count_labels-counts))

pub write_trailer-requires : goal.write_trailer-requires
write_trailer-requires c =
    (omega (arith, enough (goal.at.write_trailer-requires c).Else-output-distance_back, number_is (goal.at.write_trailer-requires c).After-count_labels-counts), omega (arith, number_is (goal.at.write_trailer-requires c).After-count_labels-counts, kept_few c.args.body.now))

pub overflow_sub-result : goal.overflow_sub-result
overflow_sub-result c = omega (arith, within (goal.at.overflow_sub-result c).After-count_labels-counts)

pub returns : goal.returns
returns c =
    let size = label_size * c.count_labels-counts.result.labels in
    let copied = ap (λ (start : List ℕ). start ++ drop size c.args.output.now) c.copy_from_slice.ensures.after in
    salvaged _ _ (enough (goal.at.returns c).Else-output-distance_back) (counts_are (goal.at.returns c).After-count_labels-counts) copied c.write_trailer.ensures
