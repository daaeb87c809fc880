use Rattle.std.proofs.Common.{◌≡◌, ◌<◌, ℕ, List, Option, Some, None, IfSome, option_map, min, take, length, ◌∙◌, ap, arith, length-take, take_all}

-- fewer bytes than were asked for are all that there were
pub all_of_fewer : (known : Option (List ℕ)) (most : ℕ) (got : List ℕ) → IfSome (option_map (take most) known) (λ xs. got ≡ xs) → length got < most
    → IfSome known (λ all. got ≡ all)
all_of_fewer None most got bytes fewer = tt
all_of_fewer (Some all) most got bytes fewer =
    let long : length got ≡ min most (length all) = ap length bytes ∙ length-take most all in
    bytes ∙ take_all most all (omega (arith, long, fewer))
