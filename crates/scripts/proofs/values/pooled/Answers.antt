use Rattle.std.proofs.Common.{◌≡◌, ◌++◌, Some, vec_items, sym, ap, ◌∙◌}
use Rattle.scripts.proofs.Pools.{put_last}
use Rattle.scripts.proofs.values.pooled.Goals as goal

pub returns : goal.returns
returns c =
    let more : vec_items c.extend_from_slice.new.self ≡ vec_items c.args.pool.now ++ vec_items c.in_ok-read.read = c.in_ok-extend_from_slice.ensures.items ∙ ap (λ l. vec_items c.args.pool.now ++ l) c.as_slice.ensures.value in
    record {
      grows = (vec_items c.in_ok-read.read, more);
      bytes = c.in_ok-read.ensures ∙ ap Some (sym (put_last (vec_items c.args.pool.now) (vec_items c.in_ok-read.read) (vec_items c.extend_from_slice.new.self) c.len-start.result c.len.result more (c.len-start.ensures ∙ c.args.pool.now.ok.0) (c.len.ensures ∙ c.in_ok-read.read.ok.0)));
      refuses = tt;
    }
