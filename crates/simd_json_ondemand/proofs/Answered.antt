-- An input that is answered as a document, at any depth limit, has no fault of the whole, and is that document along its
-- structural indexes.
use Rattle.std.proofs.Common.{◌≡◌, refl, ap, subst, ℕ, inr, List, [], ◌∷◌, length, arith, Result, Ok, Err, Option, Some, None}
use Rattle.simd_json_parts.specs.Answer.{answer, fault_or}
use Rattle.simd_json_parts.specs.Document.{Document}
use Rattle.simd_json_parts.specs.Tokens.{Token, tokens}
use Rattle.simd_json_parts.specs.Descent.{◌>>=◌, value_from, root_end, descent, last_index}
use Rattle.simd_json_parts.specs.Faults.{fault_at}
use Rattle.simd_json_parts.specs.InputFaults.{input_fault}
use Rattle.simd_json_parts.specs.Positions.{positions}
use Rattle.simd_json_parts.specs.TokensAlong.{tokens_along}
use Rattle.simd_json_parts.specs.declared.error.Error.{Error}
use Rattle.simd_json_parts.specs.declared.error.ErrorType.TheVariants.{Syntax}
use Rattle.simd_json_parts.proofs.Positions.TokensAtPositions.{tokens-positions}
use Rattle.simd_json_check.proofs.Enough.{kept, value_from-keeps}
use Rattle.simd_json_ondemand.specs.Viewed.{first_read, read_along}

sound : (o : Option Error) (r : Result Document Error) (d : Document) → fault_or o r ≡ Ok d → o ≡ None
sound None r d h = refl
sound (Some e) r d h = cc

pub whole-answered : (b : List ℕ) (limit : ℕ) (d : Document) → answer b limit ≡ Ok d → input_fault b ≡ None
unfolding answer
whole-answered b limit d h = sound (input_fault b) (descent b limit) d h

answered : (o : Option Error) (r : Result Document Error) (d : Document) → fault_or o r ≡ Ok d → r ≡ Ok d
answered None r d h = h
answered (Some e) r d h = cc

rooted : (b : List ℕ) (ts : List Token) (r : Result (Document × List Token) Error) (d : Document) → (r >>= root_end b ts) ≡ Ok d
    → r ≡ Ok (d, [])
rooted b ts (Ok (e, [])) d h = let same : e ≡ d = cc in ap (λ x. Ok (x, [])) same
rooted b ts (Ok (e, t ∷ rest)) d h = cc
rooted b ts (Err e) d h = cc

pub read-answered : (b : List ℕ) (limit : ℕ) (d : Document) → answer b limit ≡ Ok d → read_along b (positions b) ≡ Some d
unfolding answer descent
read-answered b limit d h =
    let ts : List Token = tokens b in
    let us : List Token = tokens_along b (positions b) in
    let missing : Error = fault_at b Syntax (last_index ts) in
    let missing' : Error = fault_at b Syntax 0 in
    let read : value_from b missing limit ts ≡ Ok (d, []) =
    rooted b ts (value_from b missing limit ts) d (answered (input_fault b) (descent b limit) d h) in
    let along : value_from b missing limit us ≡ Ok (d, []) =
    subst (λ vs. value_from b missing limit vs ≡ Ok (d, [])) (tokens-positions b) read in
    ap first_read (kept (value_from b missing limit us) (value_from b missing' (length us) us) (d, [])
    (value_from-keeps b missing missing' limit (length us) us (inr (omega arith))) along)
