use Rattle.std.proofs.Common.{subst, take}
use Rattle.simd_json.specs.Parsed.{IsParse}
use Rattle.simd_json.proofs.Parses.ParseAnswers.{agreed, unpadded}
use Rattle.simd_json.proofs.laws.parses_agree.Goals as goal

pub returns-clause-same : goal.returns-clause-same
returns-clause-same c = agreed

pub returns-clause-padded : goal.returns-clause-padded
returns-clause-padded c = unpadded

pub returns-clause-padding : goal.returns-clause-padding
returns-clause-padding c s s2 len limit capacity capacity2 fault fault2 nodes nodes2 listed listed2 none none2 same p q =
    agreed (take len s2) limit capacity capacity2 fault fault2 nodes nodes2 listed listed2
    (subst (λ b. IsParse b limit capacity fault nodes listed) same (unpadded s len limit capacity fault nodes listed none p))
    (unpadded s2 len limit capacity2 fault2 nodes2 listed2 none2 q)
