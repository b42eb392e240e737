-- The places of agents by their numbers, time step by time step, and a search of the joint places that they make.
use Rattle.std.specs.Prelude.{◌≡◌, ◌⊎◌, ℕ, ◌+◌, ◌<◌, ◌≤◌, ◌^◌, true, List, [], ◌++◌, ◌∷◌, length, take, drop, sum_by, slice_get, slice_index_or, Option, Some, None, Contains}
use Rattle.mapf_plan.specs.Path.{cost}
use Rattle.mapf_plan.specs.Plan.{path_of, plan_cost}
use Rattle.mapf_optimum.specs.declared.together.place.Place.{Place}
use Rattle.mapf_optimum.specs.declared.together.place.PlaceAt.{PlaceAt}
use Rattle.mapf_optimum.specs.declared.together.place.Look.{Look}
use Rattle.mapf_optimum.specs.declared.together.place.Move.{Move}
use Rattle.mapf_optimum.specs.declared.together.steps.Terms.{Terms}
use Rattle.mapf_optimum.specs.declared.together.steps.To.{To}
use Rattle.mapf_optimum.specs.Together.{Agent, AreAt, ArePlan, IsPathOf, StandsAt, place_in}

-- which of an agent's places stands for each of some agents
abbrev pub number_in : List ℕ → ℕ → ℕ
number_in numbers i = slice_index_or numbers i 0

-- numbered places of an agent at time steps, what was looked for from each, the moves that were found, and how many places are of time 0
pub record AgentKnown : Type 0 where
  pub all : List PlaceAt
  pub looks : List Look
  pub moves : List Move
  pub first : ℕ

-- that with this number is this place, at this time step
abbrev pub HasNumber : AgentKnown → (number : ℕ) → Place → (time : ℕ) → Type 0
HasNumber known number place time = slice_get known.all number ≡ Some (record { place = place; time = time })

-- one on this path is at that with this number, at this time step
abbrev pub IsAtNumber : AgentKnown → List ℕ → (time number : ℕ) → Type 0
IsAtNumber known p time number = (x : Place) × HasNumber known number x time × StandsAt p time x

-- from that with this number the agent may make this move
pub record IsMoveFrom (known : AgentKnown) (number : ℕ) (move : Move) : Type 0 where
  pub look : Look
  pub there : slice_get known.looks number ≡ Some look
  pub inside : look.end ≤ length known.moves
  pub place : ℕ
  pub from : look.first ≤ place
  pub before : place < look.end
  pub is : slice_get known.moves place ≡ Some move

-- from that with this number it may move to where one on this path is, at this time step
abbrev pub LeadsOn : AgentKnown → List ℕ → (time number : ℕ) → Type 0
LeadsOn known p time number = (move : Move) × IsMoveFrom known number move × HasNumber known move.number move.place time × StandsAt p time move.place

-- from that with this number all paths that cost less than so much go on by its moves
abbrev pub IsLookedOn : Agent → AgentKnown → (number below : ℕ) → Type 0
IsLookedOn agent known number below =
    (p : List ℕ) (time : ℕ) → IsPathOf agent p → cost p < below → time + 1 < 2 ^ 32 → IsAtNumber known p time number → LeadsOn known p (time + 1) number

-- what was looked for was found
abbrev pub AreLookedOn : Agent → AgentKnown → Type 0
AreLookedOn agent known = (number : ℕ) (look : Look) → slice_get known.looks number ≡ Some look → IsLookedOn agent known number look.below

-- one on this path begins at one of the first places
abbrev pub Begins : AgentKnown → List ℕ → Type 0
Begins known p = (n : ℕ) × (n < known.first) × IsAtNumber known p 0 n

-- all paths do that cost no more than so much
abbrev pub BeginsWithin : Agent → (most : ℕ) → AgentKnown → Type 0
BeginsWithin agent most known = (p : List ℕ) → IsPathOf agent p → cost p ≤ most → Begins known p

-- places keep their numbers, and none is of time 0 that wasn't
pub record GetsMore (old new : AgentKnown) : Type 0 where
  pub all : (n : ℕ) (x : PlaceAt) → slice_get old.all n ≡ Some x → slice_get new.all n ≡ Some x
  pub first : new.first ≡ old.first

-- nothing else changes but that there are new places, from which nothing was looked for, and new moves behind the others
pub record GetsPlaces (old new : AgentKnown) : Type 0 where
  pub more : GetsMore old new
  pub looks : (n : ℕ) (x : Look) → slice_get old.looks n ≡ Some x → slice_get new.looks n ≡ Some x
  pub fresh : (n : ℕ) (x : Look) → slice_get new.looks n ≡ Some x → (slice_get old.looks n ≡ Some x) ⊎ (x.below ≡ 0)
  pub moves : (n : ℕ) (x : Move) → slice_get old.moves n ≡ Some x → slice_get new.moves n ≡ Some x
  pub longer : length old.moves ≤ length new.moves

-- behind so many moves there is one to this place, at this time step
abbrev pub HasMoveTo : AgentKnown → (behind : ℕ) → Place → (time : ℕ) → Type 0
HasMoveTo known behind place time = (k : ℕ) × (behind ≤ k) × (n : ℕ) × (slice_get known.moves k ≡ Some (record { number = n; place = place })) × HasNumber known n place time

-- new moves lead to these places at a time step
pub record AreAdded (old new : AgentKnown) (places : List Place) (time : ℕ) : Type 0 where
  pub gets : GetsPlaces old new
  pub each : (x : Place) → Contains places x → HasMoveTo new (length old.moves) x time

-- what was looked for from these agents' places was found
abbrev pub AllFound : List Agent → List AgentKnown → Type 0
AllFound agents places = (i : ℕ) (agent : Agent) (known : AgentKnown) → slice_get agents i ≡ Some agent → slice_get places i ≡ Some known → AreLookedOn agent known

-- what is known of these agents' places
pub record AreKnownOf (agents : List Agent) (bound : ℕ) (places : List AgentKnown) : Type 0 where
  pub each : length places ≡ length agents
  pub begins : (i : ℕ) (agent : Agent) (known : AgentKnown) → slice_get agents i ≡ Some agent → slice_get places i ≡ Some known → BeginsWithin agent bound known
  pub looked : AllFound agents places

-- each agent's places keep their numbers
pub record AllGetMore (old new : List AgentKnown) : Type 0 where
  pub each : length new ≡ length old
  pub more : (i : ℕ) (a b : AgentKnown) → slice_get old i ≡ Some a → slice_get new i ≡ Some b → GetsMore a b

-- from the place with its number each agent's paths that cost no more than so much go on by its moves
abbrev pub AllLookedOn : List Agent → List AgentKnown → (numbers mosts : List ℕ) → Type 0
AllLookedOn agents places numbers mosts =
    (i : ℕ) (agent : Agent) (known : AgentKnown) → slice_get agents i ≡ Some agent → slice_get places i ≡ Some known → IsLookedOn agent known (number_in numbers i) (number_in mosts i + 1)

-- the agents on the plan's paths are at those with these numbers, at this time step
abbrev pub AreAtNumbers : List (List ℕ) → List AgentKnown → (time : ℕ) → List ℕ → Type 0
AreAtNumbers plan places time numbers = (i : ℕ) (known : AgentKnown) → slice_get places i ≡ Some known → IsAtNumber known (path_of plan i) time (number_in numbers i)

-- these are the places with these numbers
abbrev pub AreNumbered : List AgentKnown → List ℕ → List Place → Type 0
AreNumbered places numbers joint = (i : ℕ) (known : AgentKnown) → slice_get places i ≡ Some known → (time : ℕ) × HasNumber known (number_in numbers i) (place_in joint i) time

-- on the plan's paths the agents may move from those with these numbers to where they are at this time step
abbrev pub LeadOn : List (List ℕ) → List AgentKnown → (time : ℕ) → List ℕ → Type 0
LeadOn plan places time numbers = (i : ℕ) (known : AgentKnown) → slice_get places i ≡ Some known → LeadsOn known (path_of plan i) time (number_in numbers i)

-- on the plan's paths all agents begin at one of their first places
abbrev pub AllBegin : List (List ℕ) → List AgentKnown → Type 0
AllBegin plan places = (i : ℕ) (known : AgentKnown) → slice_get places i ≡ Some known → Begins known (path_of plan i)

-- the first agents do at those with these numbers
abbrev pub HaveBegun : List (List ℕ) → List AgentKnown → (count : ℕ) → List ℕ → Type 0
HaveBegun plan places count numbers = (i : ℕ) (known : AgentKnown) → i < count → slice_get places i ≡ Some known → IsAtNumber known (path_of plan i) 0 (number_in numbers i)

-- joint places by the numbers of the agents' places, and which of them wait to be gone on from
pub record Known : Type 0 where
  pub all : List (List ℕ)
  pub waiting : List ℕ

-- that one is known
abbrev pub IsKnown : Known → List ℕ → Type 0
IsKnown known numbers = (n : ℕ) × (slice_get known.all n ≡ Some numbers)

-- one at which the plan's agents are at this time step is known, or in the list
abbrev pub AreAtKnown : List (List ℕ) → List AgentKnown → Known → List (List ℕ) → (time : ℕ) → Type 0
AreAtKnown plan places known more time = (numbers : List ℕ) × (IsKnown known numbers ⊎ Contains more numbers) × AreAtNumbers plan places time numbers

-- nothing is lost, and each new one waits
pub record Grows (old new : Known) : Type 0 where
  pub keeps : (n : ℕ) (x : List ℕ) → slice_get old.all n ≡ Some x → slice_get new.all n ≡ Some x
  pub waits : (n : ℕ) → Contains old.waiting n → Contains new.waiting n
  pub fresh : (n : ℕ) (x : List ℕ) → slice_get new.all n ≡ Some x → (slice_get old.all n ≡ Some x) ⊎ Contains new.waiting n

-- the last number that waited is taken out
abbrev pub IsTakenFrom : Known → Option ℕ → Known → Type 0
IsTakenFrom old None new = (old.waiting ≡ [])
IsTakenFrom old (Some n) new = (new.all ≡ old.all) × (old.waiting ≡ new.waiting ++ n ∷ [])

-- all of so many agents have arrived
abbrev pub AreHome : ℕ → List Place → Type 0
AreHome count joint = (i : ℕ) → i < count → (place_in joint i).is_home ≡ true

-- these are places at which not all have arrived, and where the plan's agents are there, one is known to which they go on
pub record IsGoneOnFrom (plan : List (List ℕ)) (places : List AgentKnown) (known : Known) (numbers : List ℕ) : Type 0 where
  pub joint : List Place
  pub numbered : AreNumbered places numbers joint
  pub away : ¬ AreHome (length places) joint
  pub next : (time : ℕ) → time < plan_cost plan → AreAtNumbers plan places time numbers → AreAtKnown plan places known [] (time + 1)

-- what holds of joint places under way, for one plan: it begins at one of them, and it was gone on from each that doesn't wait
pub record IsSearched (plan : List (List ℕ)) (places : List AgentKnown) (known : Known) : Type 0 where
  pub begins : AreAtKnown plan places known [] 0
  pub goes_on : (n : ℕ) (numbers : List ℕ) → slice_get known.all n ≡ Some numbers → Contains known.waiting n ⊎ IsGoneOnFrom plan places known numbers

-- what places cost together
abbrev pub cost_in : List Place → ℕ
cost_in joint = sum_by (λ (x : Place). x.cost) joint

-- a plan within the terms goes on from a joint place at a time step by the agents' moves
pub record GoesOnFrom (plan : List (List ℕ)) (terms : Terms) (places : List AgentKnown) (numbers : List ℕ) (joint : List Place) (time : ℕ) : Type 0 where
  pub is : ArePlan terms.rule (length places) terms.total plan
  pub here : AreAt plan (length places) time joint
  pub leads : LeadOn plan places (time + 1) numbers

-- its first agents have gone on to this joint place by this time step; so much it costs at least, by where the others come from
pub record HaveGone (plan : List (List ℕ)) (places : List AgentKnown) (from : List Place) (to : To) (gone cost_so time : ℕ) : Type 0 where
  pub there : AreAt plan gone time to.joint
  pub numbered : (i : ℕ) (known : AgentKnown) → i < gone → slice_get places i ≡ Some known → HasNumber known (number_in to.numbers i) (place_in to.joint i) time
  pub costs : cost_so ≤ sum_by cost (take gone plan) + cost_in (drop gone (take (length places) from))

-- the next one goes on by this move
pub record GoesBy (plan : List (List ℕ)) (places : List AgentKnown) (agent : ℕ) (move : Move) (time : ℕ) : Type 0 where
  pub numbered : (known : AgentKnown) → slice_get places agent ≡ Some known → HasNumber known move.number move.place time
  pub stands : StandsAt (path_of plan agent) time move.place

-- where the first agents have gone on to is the same
pub record AreSame (count : ℕ) (old new : To) : Type 0 where
  pub numbers : (i : ℕ) → i < count → number_in new.numbers i ≡ number_in old.numbers i
  pub joint : (i : ℕ) → i < count → place_in new.joint i ≡ place_in old.joint i
