-- The machine between the members of a container.
use Rattle.std.specs.Prelude.{◌≡◌, ◌≤◌, ◌<◌, ◌+◌, ◌*◌, ℕ, List, length, slice_index, min, Contains, Result, OnOk, IfErr}
use Rattle.simd_json_parts.specs.Bytes.{quote}
use Rattle.simd_json_parts.specs.Tokens.{form_at, tokens}
use Rattle.simd_json_parts.specs.Nodes.{Item}
use Rattle.simd_json_stages.specs.Building.{closer, AtValue, AtName, AfterValue, IsBuilt, IsFirstFault}
use Rattle.simd_json_stages.specs.NodesEnough.{nodes_enough}
use Rattle.simd_json_stages.specs.Progresses.{IsOnRoute, IsRead, IsBefore, IsAfter}
use Rattle.simd_json_stages.specs.Rejections.{error_type}
use Rattle.simd_json_stages.specs.declared.stage2.machine.Machine.{Machine}
use Rattle.simd_json_stages.specs.declared.stage2.progress.Route.{Route}
use Rattle.simd_json_stages.specs.declared.stage2.stack.Container.{Container}
use Rattle.simd_json_stages.specs.declared.stage2.stack.Container.TheVariants.{Array, Object}
use Rattle.simd_json_stages.specs.declared.stage2.stack.StackState.{StackState}
use Rattle.simd_json_stages.specs.declared.stage2.fault.Fault.{Fault}
use Rattle.simd_json_stages.specs.declared.stage2.fault.FaultKind.{FaultKind}
use Rattle.simd_json_stages.specs.declared.stage2.fault.FaultKind.TheVariants as kinds
use Rattle.simd_json_stages.specs.declared.stage2.progress.Following.{Following}
use Rattle.simd_json_stages.specs.declared.stage2.progress.Following.TheVariants as followings
use Rattle.simd_json_stages.specs.declared.stage2.progress.NextMember.{NextMember}
use Rattle.simd_json_stages.specs.declared.stage2.progress.NextMember.TheVariants.{Next, End}
use Rattle.simd_json_stages.specs.declared.stage2.progress.Step.{Step}
use Rattle.simd_json_stages.specs.declared.stage2.progress.Step.TheVariants.{Opened, Read}
use Rattle.simd_json_stages.specs.declared.stage2.progress.Progress.{Progress}

-- there is capacity for the nodes of the positions ps, and for a frame each
pub record HasCapacity (ps : List ℕ) (limit : ℕ) (stack : List StackState) (capacity : ℕ) : Type 0 where
  pub node_capacity : nodes_enough (length ps) limit ≤ capacity
  pub frame_capacity : min (length ps) limit ≤ length stack

-- after a token, where the next one can be read if there is one
pub record AfterToken (b : List ℕ) (r : Route) (reads : ℕ → Type 0) (p : Progress) : Type 0 where
  pub on_route : IsOnRoute r.ends_closed r.end b r.indexes.now
  pub read : IsRead b r.indexes.now p
  pub input : p.read < length r.indexes.now → reads (slice_index r.indexes.now p.read)

-- at the opening quote of a string
pub record AtString (b : List ℕ) (r : Route) (reads : ℕ → Type 0) (capacity written : ℕ) (p : Progress) : Type 0 where
  pub on_route : IsOnRoute r.ends_closed r.end b r.indexes.now
  pub read : IsRead b r.indexes.now p
  pub token : Contains (tokens b) (record { index = p.at; form = form_at b p.at })
  pub opening : p.byte ≡ quote
  pub input : reads p.at
  pub room : written < capacity

-- no token before this one is looked at again
abbrev pub IsFrom : ℕ → NextMember → Type 0
IsFrom n (Next p kind) = n ≤ p.read
IsFrom n End = Unit {0}

-- The state of the machine is its stack, from which index on the input can be read, and the nodes with their capacity.
module _ (b : List ℕ) (r : Route) (m : Machine) (reads : ℕ → Type 0) (capacity : ℕ) (nodes : List Item) where
  -- at the first token of a value
  pub record AtFirst (p : Progress) : Type 0 where
    pub on_route : IsOnRoute r.ends_closed r.end b r.indexes.now
    pub capacities : HasCapacity r.indexes.now r.max_depth m.stack.now capacity
    pub progress : IsBefore b r.indexes.now reads (length nodes) p
    pub depth : p.depth ≤ r.max_depth
    pub value : AtValue b r.indexes.now r.max_depth m.stack.now nodes p

  -- at the opening bracket of a container of this kind
  pub record AtOpening (p : Progress) (c : Container) : Type 0 where
    pub first : AtFirst p
    pub bracket : p.byte + 2 ≡ closer c

  -- at the first token of an element of an array
  pub record AtElement (p : Progress) : Type 0 where
    pub first : AtFirst p
    pub inside : 0 < p.depth
    pub array : p.container ≡ Array

  -- at the first token of a member of an object, where a fault of this kind is reported if it is no key
  pub record AtPair (p : Progress) (kind : FaultKind) : Type 0 where
    pub on_route : IsOnRoute r.ends_closed r.end b r.indexes.now
    pub capacities : HasCapacity r.indexes.now r.max_depth m.stack.now capacity
    pub progress : IsBefore b r.indexes.now reads (length nodes) p
    pub depth : p.depth ≤ r.max_depth
    pub name : AtName b r.indexes.now r.max_depth (error_type kind) m.stack.now nodes p

  -- after a value
  pub record AfterLast (p : Progress) : Type 0 where
    pub on_route : IsOnRoute r.ends_closed r.end b r.indexes.now
    pub capacities : HasCapacity r.indexes.now r.max_depth m.stack.now capacity
    pub progress : IsAfter b r.indexes.now reads (length nodes) p
    pub depth : p.depth ≤ r.max_depth
    pub after : AfterValue b r.indexes.now r.max_depth m.stack.now nodes p

  -- after a member of a container of this kind
  pub record AfterMember (p : Progress) (c : Container) : Type 0 where
    pub last : AfterLast p
    pub inside : 0 < p.depth
    pub container : c ≡ p.container

  -- at a member of a container of this kind
  abbrev pub IsAtMemberOf : Container → Progress → FaultKind → Type 0
  IsAtMemberOf Array p kind = AtElement p
  IsAtMemberOf Object p kind = AtPair p kind

  -- at a member, or at the end with the whole document
  abbrev pub IsAtMember : NextMember → Type 0
  IsAtMember (Next p kind) = IsAtMemberOf p.container p kind
  IsAtMember End = (2 * length nodes ≤ length r.indexes.now + 1) × IsBuilt b r.indexes.now r.max_depth nodes

  -- in a new container, or past a value
  abbrev pub HasCome : Step → Type 0
  HasCome (Opened p) = IsAtMemberOf p.container p kinds.ExpectedObjectContent
  HasCome (Read p) = AfterLast p

  -- at the next member, or past the container
  abbrev pub HasFollowed : Following → Type 0
  HasFollowed (followings.Next p) = IsAtMemberOf p.container p kinds.ExpectedObjectKey
  HasFollowed (followings.Closed p) = AfterLast p

-- the fault is the descent's
abbrev pub IsFault : List ℕ → Route → Fault → Type 0
IsFault b r f = IsFirstFault b r.indexes.now r.max_depth f

-- The nodes of the whole document are written, or the fault is the descent's.
pub record IsTape (b ps : List ℕ) (limit : ℕ) (nodes : List Item) (r : Result (Unit {0}) Fault) : Type 0 where
  pub few : OnOk r (2 * length nodes ≤ length ps + 1)
  pub built : OnOk r (IsBuilt b ps limit nodes)
  pub rejected : IfErr r (IsFirstFault b ps limit)
