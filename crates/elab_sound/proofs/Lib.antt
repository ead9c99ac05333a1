mod Contexts
mod Chains
