use Rattle.std.proofs.Common.{rules}
use Rattle.std.proofs.lemmas.List.Sorted.{answers_always}
use Rattle.fb_schema.proofs.PlaceLemmas.{place_found, place_missing}
use Rattle.fb_schema.proofs.sorting.place_of.Goals as goal

pub returns-in-Ok : goal.returns-in-Ok
returns-in-Ok g c = λ keys h. place_found g.K.Ord.cmp g.met.K.Ord.total keys c.args.order.now h c.args.key.now c.in-Ok.at c.in-Ok.ensures.bound c.index-order-at.result (c.in-Ok.ensures.position (λ e. e.0) (answers_always _ _ _ (λ f a r q called. search rules)))

pub returns-in-Err : goal.returns-in-Err
returns-in-Err g c = λ keys h. place_missing g.K.Ord.cmp g.met.K.Ord.total keys c.args.order.now h c.args.key.now c.in-Err.field-0 (c.in-Err.ensures.position (λ e. e.0) (answers_always _ _ _ (λ f a r q called. search rules)))
