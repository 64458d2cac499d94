use Rattle.ltl_lassos.proofs.Stretched.{none_counted}
use Rattle.ltl_lassos.proofs.absence_of_violations.counted_systems.Goals as goal

pub returns-clause-unreached : goal.returns-clause-unreached
returns-clause-unreached c = λ sys m counted f atoms k ism isc own gives none. none_counted sys m f atoms ism own gives counted k isc none

pub returns-clause-certified : goal.returns-clause-certified
returns-clause-certified c = λ sys m counted f atoms k cert ism isc own gives certifies.
    none_counted sys m f atoms ism own gives counted k isc (c.no_run_reaches_bad.ensures counted cert certifies)
