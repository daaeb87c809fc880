use Rattle.crypto_services.proofs.work.Work.new.Goals as goal

pub invariant_of-result : goal.invariant_of-result
invariant_of-result c = c.in_ok-bytes.ensures.items_if_clones_equal (λ y h. h)

pub returns : goal.returns
returns c = c.in_ok-bytes.ensures.items_if_clones_equal (λ y h. h)
