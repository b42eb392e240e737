-- Two files ask for one instance, or have one first fault, and never both.
use Rattle.std.proofs.Common.{◌≡◌, ◌≢◌, ℕ, List, subst, sym, ap}
use Rattle.mapf_grid.specs.Grid.{Grid}
use Rattle.mapf_grid.specs.Lines.{lines_of}
use Rattle.mapf_grid.specs.MapFile.{IsMap}
use Rattle.mapf_grid.specs.ScenarioFile.{IsScenario}
use Rattle.mapf_grid.specs.Instance.{Instance, IsInstance, IsInstanceFault}
use Rattle.mapf_grid.specs.Asked.{IsAsked, IsFilesFault, of_instance}
use Rattle.mapf_grid.specs.declared.scenario.Row.{Row}
use Rattle.mapf_grid.specs.declared.fault.InstanceFault.{InstanceFault}
use Rattle.mapf_grid.specs.declared.fault.InstanceFault.TheVariants as instance_fault
use Rattle.mapf_grid.specs.declared.files.FilesFault.{FilesFault}
use Rattle.mapf_grid.specs.declared.files.FilesFault.TheVariants as files
use Rattle.mapf_grid.proofs.laws.Unique.{one_map, one_scenario, one_instance, map_or_fault, scenario_or_fault, instance_or_fault, one_map_fault, one_scen_fault, one_instance_fault}

-- what a grid's rows are is that of an equal grid and equal rows
carried : (g h : Grid) (r s : List Row) (P : Grid → List Row → Type 0) → g ≡ h → r ≡ s → P h s → P g r
carried g h r s P eg er p = subst (λ x. P x r) (sym eg) (subst (λ y. P h y) (sym er) p)

-- the two files ask for one instance
pub same_instance : (map scen : List ℕ) (agents : ℕ) (i j : Instance) → IsAsked map scen agents i → IsAsked map scen agents j → i ≡ j
same_instance map scen agents i j a b =
    one_instance i.grid a.rows agents i j a.instance
    (carried i.grid j.grid a.rows b.rows (λ g r. IsInstance g r agents j) (one_map (lines_of map) i.grid j.grid a.map_file b.map_file)
    (one_scenario (lines_of scen) a.rows b.rows a.scenario_file b.scenario_file) b.instance)

-- an instance that is asked for has no fault
pub no_fault : (map scen : List ℕ) (agents : ℕ) (i : Instance) (fault : FilesFault) → IsAsked map scen agents i → IsFilesFault map scen agents fault → ⊥
no_fault map scen agents i (files.Map fault) a f = map_or_fault (lines_of map) i.grid fault a.map_file f
no_fault map scen agents i (files.Scenario fault) a (g, m, f) = scenario_or_fault (lines_of scen) a.rows fault a.scenario_file f
no_fault map scen agents i (files.Instance fault) a (g, rows, m, s, f) =
    instance_or_fault i.grid a.rows agents i fault a.instance
    (carried i.grid g a.rows rows (λ h r. IsInstanceFault h r agents fault) (one_map (lines_of map) i.grid g a.map_file m)
    (one_scenario (lines_of scen) a.rows rows a.scenario_file s) f)
no_fault map scen agents i files.NoMemory a f = f

-- the files have one first fault
pub same_files_fault : (map scen : List ℕ) (agents : ℕ) (a b : FilesFault) → IsFilesFault map scen agents a → IsFilesFault map scen agents b → b ≡ a
same_files_fault map scen agents files.NoMemory b f h = absurd f
same_files_fault map scen agents (files.Map x) files.NoMemory f h = absurd h
same_files_fault map scen agents (files.Map x) (files.Map y) f h = ap (λ z. files.Map z) (one_map_fault (lines_of map) y x h f)
same_files_fault map scen agents (files.Map x) (files.Scenario y) f (g, m, h) = absurd (map_or_fault (lines_of map) g x m f)
same_files_fault map scen agents (files.Map x) (files.Instance y) f (g, rows, m, s, h) = absurd (map_or_fault (lines_of map) g x m f)
same_files_fault map scen agents (files.Scenario x) files.NoMemory f h = absurd h
same_files_fault map scen agents (files.Scenario x) (files.Map y) (g, m, f) h = absurd (map_or_fault (lines_of map) g y m h)
same_files_fault map scen agents (files.Scenario x) (files.Scenario y) (g, m, f) (g', m', h) = ap (λ z. files.Scenario z) (one_scen_fault (lines_of scen) y x h f)
same_files_fault map scen agents (files.Scenario x) (files.Instance y) (g, m, f) (g', rows, m', s, h) = absurd (scenario_or_fault (lines_of scen) rows x s f)
same_files_fault map scen agents (files.Instance x) files.NoMemory f h = absurd h
same_files_fault map scen agents (files.Instance x) (files.Map y) (g, rows, m, s, f) h = absurd (map_or_fault (lines_of map) g y m h)
same_files_fault map scen agents (files.Instance x) (files.Scenario y) (g, rows, m, s, f) (g', m', h) = absurd (scenario_or_fault (lines_of scen) rows y s h)
same_files_fault map scen agents (files.Instance x) (files.Instance y) (g, rows, m, s, f) (g', rows', m', s', h) =
    ap (λ z. files.Instance z) (one_instance_fault g rows agents y x
    (carried g g' rows rows' (λ k r. IsInstanceFault k r agents y) (one_map (lines_of map) g g' m m') (one_scenario (lines_of scen) rows rows' s s') h) f)

-- an instance's fault is one of the files
pub instance_fault_of_files : (map scen : List ℕ) (agents : ℕ) (g : Grid) (rows : List Row) (fault : InstanceFault) (r : FilesFault) →
    IsMap (lines_of map) g → IsScenario (lines_of scen) rows →
    (fault ≢ instance_fault.NoMemory → IsInstanceFault g rows agents fault) → r ≡ of_instance fault → r ≢ files.NoMemory →
    IsFilesFault map scen agents r
instance_fault_of_files map scen agents g rows instance_fault.NoMemory r m s h e ne = absurd (ne e)
instance_fault_of_files map scen agents g rows fault r m s h e ne = subst (IsFilesFault map scen agents) (sym e) (g, rows, m, s, h (λ x. cc))
