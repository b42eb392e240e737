pub mod Paths
pub mod Conflicts
pub mod PlanNumbers
pub mod WhatIsLeft
