use Rattle.std.proofs.Common.{subst, arith, string_bytes}
use Rattle.simd_json_serde.specs.Nodes.{items_of}
use Rattle.simd_json_serde.specs.Paths.{IsStep}
use Rattle.simd_json_serde.proofs.Paths.{at-root, ends-none, ends-step, on-way}
use Rattle.simd_json_serde.proofs.path.append_path.Goals as goal

pub loop-passed-init : goal.loop-passed-init
loop-passed-init c = λ d h. at-root (items_of c.args.nodes) c.args.fault.now.node c.args.fault.now.depth d (string_bytes c.args.path.now) h

pub returns : goal.returns
returns c = λ d h.
    ends-none (items_of c.args.nodes) c.args.fault.now.node _ (string_bytes c.loop-passed.path) c.loop-passed.at _
    (c.loop-passed.invariant d h) (omega (arith, c.loop-passed-test.false))

pub returns-in_default : goal.returns-in_default
returns-in_default c = λ d h.
    let ns = (items_of c.args.nodes) in
    let node = c.args.fault.now.node in
    let l = c.loop-passed in
    let r = l.invariant d h in
    ends-step ns node _ (string_bytes l.path) (string_bytes c.append_token.new.path) l.at _ r
    (subst (IsStep ns node r.document l.at (string_bytes l.path) (string_bytes c.append_token.new.path)) c.in_default.is
    (c.in_ok-child.ensures r.document r.begin))

pub loop-passed-preserved : goal.loop-passed-preserved
loop-passed-preserved c = λ d h.
    let ns = (items_of c.args.nodes) in
    let node = c.args.fault.now.node in
    let l = c.loop-passed in
    let r = l.invariant d h in
    on-way ns node _ (string_bytes l.path) (string_bytes c.append_token.new.path) l.at c.in-Some.child _ _ r
    (subst (IsStep ns node r.document l.at (string_bytes l.path) (string_bytes c.append_token.new.path)) c.in-Some.is
    (c.in_ok-child.ensures r.document r.begin))
    (omega (arith, c.loop-passed-test.true))
